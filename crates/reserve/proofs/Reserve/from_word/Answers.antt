-- `Reserve::from_word` meets its contract: the vote's constructor refuses the same, and makes the fresh vote.
use mathlib.Core.Path.{◌≡◌, refl}
use mathlib.Core.Bool.{Bool, true, false}
use Prim.Native.Nat.{ℕ}
use lib.Dec.{eqb}
use Rattle.std.specs.Prelude.{if◌then◌else◌}
use Rattle.rules.specs.Limits.{bad_count}
use Rattle.rules.specs.declared.refusal.Refusal.{Refusal}
use Rattle.rules.specs.Refusal.{refusal_of}
use Rattle.rules.specs.Table.{first}
use Rattle.rules.specs.Refusals.{make_rows}
use Rattle.vote.specs.Vote as vote
use Rattle.rules.specs.declared.answers.Made.{Made}
use Rattle.reserve.specs.declared.Phase.TheVariants.{Primary}
use Rattle.reserve.specs.declared.Reserve.{Reserve}
use Rattle.reserve.specs.Reserve.{made, not_made, made_of}
use Rattle.reserve.proofs.Reserve.from_word.Goals as goal

over : (n need word : ℕ) → let m = vote.made_of n need word in ◌≡◌ {A = Made Reserve} (record { state = record { phase = Primary; vote = m.state }; refusal = m.refusal }) (made_of n need word)
unfolding made_of vote.made_of
over n need word = go (refusal_of (first (make_rows (bad_count need) n word))) (eqb (first (make_rows (bad_count need) n word)) 0) where
  go :
      (r : Refusal) (b : Bool) → let m = if b then vote.made n need word else vote.not_made r in
      ◌≡◌ {A = Made Reserve} (record { state = record { phase = Primary; vote = m.state }; refusal = m.refusal }) (if b then made n need word else not_made r)
  go r true = refl
  go r false = refl

pub returns : goal.returns
returns c = rw c.from_word-made.ensures (over _ _ _)
