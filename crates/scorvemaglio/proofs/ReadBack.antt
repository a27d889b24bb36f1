-- A state that a call has written is the state that the next call reads.
use mathlib.Core.Path.{◌≡◌, refl, ap}
use mathlib.Core.Bool.{false}
use mathlib.Core.List.{[], ◌∷◌}
use Rattle.confirm.specs.declared.Confirm.{Confirm}
use Rattle.vote.specs.declared.Vote.{Vote}
use Rattle.tuple.specs.declared.Tuple.{Tuple}
use Rattle.reserve.specs.declared.Phase.{Phase}
use Rattle.reserve.specs.declared.Phase.TheVariants.{Primary, TakingOver, Reserve as Reserved}
use Rattle.reserve.specs.declared.Reserve.{Reserve}
use Rattle.scorvemaglio.specs.States.{confirm_of, confirm_numbers, vote_of, vote_numbers, tuple_of, tuple_numbers, phase_of, phase_number, no_phase, reserve_of, reserve_numbers}

pub confirm_back : (s : Confirm) → confirm_of (confirm_numbers s) ≡ s
confirm_back s = refl

pub vote_back : (s : Vote) → vote_of (vote_numbers s) ≡ s
vote_back s = refl

pub tuple_back : (s : Tuple) → tuple_of (tuple_numbers s) ≡ s
tuple_back s = refl

phase_back : (p : Phase) → phase_of (phase_number p) ≡ p
phase_back Primary = refl
phase_back TakingOver = refl
phase_back Reserved = refl

pub reserve_back : (s : Reserve) → reserve_of (reserve_numbers s) ≡ s
reserve_back s = ap (λ (p : Phase). record { phase = p; vote = s.vote }) (phase_back s.phase)

-- and its phase is one
pub phase_kept : (s : Reserve) → no_phase (reserve_numbers s) ≡ false
phase_kept s = go s.phase where
  go : (p : Phase) → no_phase (phase_number p ∷ []) ≡ false
  go Primary = refl
  go TakingOver = refl
  go Reserved = refl
