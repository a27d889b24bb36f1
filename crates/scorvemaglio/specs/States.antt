-- States as C has them: numbers, in the order of the header's fields.
use Rattle.std.specs.Prelude.{ℕ, ◌+◌, List, [], ◌∷◌, ◌++◌, Bool, eqb, ltb, get_or, drop, if◌then◌else◌}
use Rattle.confirm.specs.declared.Confirm.{Confirm}
use Rattle.vote.specs.declared.Vote.{Vote}
use Rattle.tuple.specs.declared.Tuple.{Tuple}
use Rattle.reserve.specs.declared.Phase.{Phase}
use Rattle.reserve.specs.declared.Phase.TheVariants.{Primary, TakingOver, Reserve as Reserved}
use Rattle.reserve.specs.declared.Reserve.{Reserve}

abbrev pub confirm_of : List ℕ → Confirm
confirm_of s = record { n = get_or s 0 0; need = get_or s 1 0; input = get_or s 2 0; output = get_or s 3 0; count = get_or s 4 0 }

abbrev pub confirm_numbers : Confirm → List ℕ
confirm_numbers s = s.n ∷ s.need ∷ s.input ∷ s.output ∷ s.count ∷ []

abbrev pub vote_of : List ℕ → Vote
vote_of s = record { n = get_or s 0 0; need = get_or s 1 0; word = get_or s 2 0; count = get_or s 3 0 }

abbrev pub vote_numbers : Vote → List ℕ
vote_numbers s = s.n ∷ s.need ∷ s.word ∷ s.count ∷ []

-- the voters' count, the confirmation's five numbers, the agreed signals, and the counts of 32 places
abbrev pub counts_at : ℕ
counts_at = 7

abbrev pub tuple_length : ℕ
tuple_length = counts_at + 32

abbrev pub tuple_of : List ℕ → Tuple
tuple_of s =
    record {
      votes = get_or s 0 0;
      confirm = record { n = get_or s 1 0; need = get_or s 2 0; input = get_or s 3 0; output = get_or s 4 0; count = get_or s 5 0 };
      agreed = get_or s 6 0;
      counts = drop counts_at s;
    }

abbrev pub tuple_numbers : Tuple → List ℕ
tuple_numbers s = s.votes ∷ confirm_numbers s.confirm ++ s.agreed ∷ s.counts

-- 0 primary, 1 taking over, 2 reserve; any other is no phase
abbrev pub phase_of : ℕ → Phase
phase_of p =
    if eqb p 0 then Primary else
    if eqb p 1 then TakingOver else
    Reserved

abbrev pub phase_number : Phase → ℕ
phase_number Primary = 0
phase_number TakingOver = 1
phase_number Reserved = 2

abbrev pub no_phase : List ℕ → Bool
no_phase s = ltb 2 (get_or s 0 0)

-- the phase, and the vote's four numbers
abbrev pub reserve_of : List ℕ → Reserve
reserve_of s =
    record {
      phase = phase_of (get_or s 0 0);
      vote = record { n = get_or s 1 0; need = get_or s 2 0; word = get_or s 3 0; count = get_or s 4 0 };
    }

abbrev pub reserve_numbers : Reserve → List ℕ
reserve_numbers s = phase_number s.phase ∷ vote_numbers s.vote
