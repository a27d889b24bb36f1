-- `tuple::steps::write_steps` meets its contract. The invariant: each slice is written before i, and the samples from
-- i on give the rest. The state is one that a step takes, and every count is zero where no signal disagreed at the
-- sample before.
use mathlib.Core.Path.{◌≡◌, refl, sym, ap, subst, ◌∙◌}
use mathlib.Core.List.{List}
use mathlib.Core.Bool.{false}
use Prim.Native.Nat.{ℕ, ◌<◌}
use borrow.Author.Rules.{rules}
use borrow.Author.Tests.{eqb-true, not-false}
use lib.ListN.{length, get_or}
use Rattle.rules.specs.Limits.{outside}
use Rattle.trace.specs.Answers.{done}
use Rattle.trace.proofs.FillPairs.{start_pair, turn_pair, filled_pair}
use Rattle.tuple.specs.Disagreement.{disagreement, voters_by}
use Rattle.tuple.specs.Run.{stepped, leaves, shown_word, shown_mask, shown_mark, shown_second, answer_of}
use Rattle.tuple.specs.declared.Tuple.{Tuple}
use Rattle.tuple.specs.declared.Voters.{Voters}
use Rattle.tuple.specs.Tuple.{width, vote_need, fresh, changed}
use Rattle.tuple.proofs.Accepted.{Accepted, accept}
use Rattle.tuple.proofs.Disagreement.{disagreement_inside, look}
use Rattle.tuple.proofs.InParts.{together, wide, rests, taken}
use Rattle.tuple.proofs.steps.write_steps.Goals as goal

-- the signals that disagree at sample i, as the definition has them
found_so :
    {n : ℕ} {start : Tuple} {a b words masks marks seconds : List ℕ} (ok : Accepted n start a b words masks marks seconds) (i : ℕ)
    → i < length a → {r : ℕ}
    → ((m : ℕ) → outside m (get_or a i 0) ≡ false → outside m (get_or b i 0) ≡ false → r ≡ disagreement m (get_or a i 0) (get_or b i 0))
    → r ≡ disagreement n (get_or a i 0) (get_or b i 0)
found_so {n} ok i here is = let inside = ok.inside i here in is n inside.0 inside.1

-- a run that is accepted goes from the state that is handed over
ok_from :
    (start : Tuple) (a b words masks marks seconds : List ℕ)
    → answer_of (width start) (vote_need start) start.confirm.need start.agreed a b words masks marks seconds ≡ done
    → start ≡ fresh (width start) (vote_need start) start.confirm.need start.agreed
    → Accepted (width start) start a b words masks marks seconds
ok_from start a b words masks marks seconds accepted e =
    subst (λ (s : Tuple). Accepted (width start) s a b words masks marks seconds) (sym e) (accept _ _ _ _ a b words masks marks seconds accepted)

pub loop-i-init : goal.loop-i-init
loop-i-init c =
    let x = c.args in
    let ok = ok_from x.start x.a.now x.b.now x.words.now x.masks.now x.marks.now x.seconds.now c.requires.accepted c.requires.from_fresh in
    record {
      second_long = ok.second_long;
      counts_long = search rules;
      sound = ok.start_sound;
      votes = refl;
      rest = λ e. ap (λ (s : Tuple). s.counts) c.requires.from_fresh;
      in_words = start_pair stepped leaves shown_word x.start x.a.now x.b.now ok.second_long x.words.now ok.words_long;
      in_masks = start_pair stepped leaves shown_mask x.start x.a.now x.b.now ok.second_long x.masks.now ok.masks_long;
      in_marks = start_pair stepped leaves shown_mark x.start x.a.now x.b.now ok.second_long x.marks.now ok.marks_long;
      in_seconds = start_pair stepped leaves shown_second x.start x.a.now x.b.now ok.second_long x.seconds.now ok.seconds_long;
    }

pub step_sample-mask-requires : goal.step_sample-mask-requires
step_sample-mask-requires c =
    let x = c.args in
    let l = c.loop-i in
    let inv = l.invariant in
    let ok = ok_from x.start x.a.now x.b.now x.words.now x.masks.now x.marks.now x.seconds.now c.requires.accepted c.requires.from_fresh in
    let more = c.loop-i-test.true in
    let s = changed x.start l.confirm l.agreed l.counts in
    record {
      n_bound = wide _ _ s inv.sound inv.votes;
      resting = rests _ _ s inv.sound inv.votes _ (λ q. inv.rest (eqb-true _ _ (not-false _ q)));
    }

pub loop-i-preserved : goal.loop-i-preserved
loop-i-preserved c =
    let x = c.args in
    let l = c.loop-i in
    let inv = l.invariant in
    let ok = ok_from x.start x.a.now x.b.now x.words.now x.masks.now x.marks.now x.seconds.now c.requires.accepted c.requires.from_fresh in
    let more = c.loop-i-test.true in
    let s = changed x.start l.confirm l.agreed l.counts in
    let found = found_so ok l.i more c.disagreement-disagreeing.ensures in
    let inside = (ok.inside l.i more).0 in
    let among : outside (width x.start) c.disagreement-disagreeing.result ≡ false = rw found (disagreement_inside (width x.start) (get_or x.a.now l.i 0) (get_or x.b.now l.i 0)) in
    let few = wide _ _ s inv.sound inv.votes in
    let voters : Voters = record { word = c.voted_word-voted.result; mask = c.step_sample-mask.result; second = c.second_word-second.result; counts = c.step_sample-mask.new.counts } in
    let looked = together (width x.start) (vote_need x.start) s.agreed s.counts (get_or x.a.now l.i 0) c.disagreement-disagreeing.result
    (c.voted_word-voted.ensures (width x.start) few inside among) c.step_sample-mask.ensures.value (c.second_word-second.ensures (width x.start) among) c.step_sample-mask.ensures.counts_after
    ∙ ap (λ (d : ℕ). voters_by (width x.start) (vote_need x.start) s.agreed s.counts (get_or x.a.now l.i 0) d) found
    ∙ look (width x.start) (vote_need x.start) s.agreed s.counts (get_or x.a.now l.i 0) (get_or x.b.now l.i 0) in
    let t = taken _ _ s inv.sound inv.votes inv.counts_long _ _ voters looked _ _ c.decide-answer.ensures in
    record {
      second_long = inv.second_long;
      counts_long = t.as_long;
      sound = t.sound_left;
      votes = t.votes_left;
      rest = λ q. t.all_rest inside (sym found ∙ q);
      in_words = turn_pair stepped leaves shown_word _ _ _ inv.second_long _ _ _ _ _ t.whole t.word_shown more inv.in_words;
      in_masks = turn_pair stepped leaves shown_mask _ _ _ inv.second_long _ _ _ _ _ t.whole t.mask_shown more inv.in_masks;
      in_marks = turn_pair stepped leaves shown_mark _ _ _ inv.second_long _ _ _ _ _ t.whole c.mark.ensures more inv.in_marks;
      in_seconds = turn_pair stepped leaves shown_second _ _ _ inv.second_long _ _ _ _ _ t.whole t.second_shown more inv.in_seconds;
    }

pub returns : goal.returns
returns c =
    let inv = c.loop-i.invariant in
    let past = c.loop-i-test.false in
    record {
      words_after = filled_pair stepped leaves shown_word _ _ _ inv.second_long _ _ _ past inv.in_words;
      masks_after = filled_pair stepped leaves shown_mask _ _ _ inv.second_long _ _ _ past inv.in_masks;
      marks_after = filled_pair stepped leaves shown_mark _ _ _ inv.second_long _ _ _ past inv.in_marks;
      seconds_after = filled_pair stepped leaves shown_second _ _ _ inv.second_long _ _ _ past inv.in_seconds;
    }
