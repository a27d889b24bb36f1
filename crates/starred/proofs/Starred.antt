-- Every starred example holds: each row is computed.
use mathlib.Core.Path.{refl}
use mathlib.Core.List.{zip}
use lib.Ieee.{of_bits, sub, neg, le, lt}
use Rattle.rules.specs.Table.{first}
use Rattle.trace.specs.Samples.{first_where}
use Rattle.trace.specs.Answers.{run_answer}
use Rattle.trace.specs.Trace.{trace}
use Rattle.confirm.specs.Confirm.{clauses}
use Rattle.rules.specs.Signals.{as_list, some_below}
use Rattle.recording.specs.Fields.{fields_of}
use Rattle.recording.specs.Recording.{read_of}
use Rattle.text.specs.Text.{bytes, digits, places_up_to, glyph, line}
use Rattle.listing.specs.Listing.{text_of, listing_of, heading, joined}
use Rattle.sizing.specs.Sizing.{sizing_of}
use Rattle.threshold.specs.Threshold.{threshold_of}
use Rattle.vote.specs.Vote.{clauses as vote_clauses}
use Rattle.reserve.specs.Reserve.{clauses as reserve_clauses}
use Rattle.starred.specs.Rows.{Every}
use Rattle.starred.specs.Table.{table}

pub starred : Every table
unfolding first first_where run_answer trace fields_of read_of text_of listing_of heading line joined as_list some_below bytes digits places_up_to glyph clauses vote_clauses reserve_clauses sizing_of threshold_of zip of_bits sub neg le lt
starred = ((refl, refl, refl, refl), (refl, ((refl, refl, refl, refl), (refl, (refl, (refl, ((refl, refl, refl), ((refl, refl, refl), ((refl, refl, refl), (refl, (refl, (refl, tt))))))))))))
