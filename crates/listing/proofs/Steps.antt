-- Every step that a run takes shows what a listing can tell, and so do the columns of a whole run.
use mathlib.Core.Path.{◌≡◌, sym, ◌∙◌}
use mathlib.Core.Bool.{false}
use mathlib.Core.List.{List, map}
use Prim.Native.Nat.{ℕ, ◌^◌, ◌≤◌, ◌<◌}
use native.Mathlib.Omega.{arith}
use lib.ListN.{length, get_or, length-map}
use Rattle.rules.specs.Limits.{outside}
use Rattle.rules.proofs.Ranges.{count_range, width_range}
use Rattle.rules.proofs.Width.{below}
use Rattle.trace.specs.Samples.{outside_four}
use Rattle.trace.specs.Trace.{trace}
use Rattle.trace.proofs.Steps.{trace_length, column_shows}
use Rattle.confirm.specs.Confirm as confirm
use Rattle.confirm.specs.Run as confirm_run
use Rattle.confirm.specs.declared.Confirm.{Confirm as ConfirmState}
use Rattle.confirm.proofs.Clauses as confirm_clauses
use Rattle.confirm.proofs.Stepwise as confirm_steps
use Rattle.tuple.specs.Tuple as tuple
use Rattle.tuple.specs.Run as tuple_run
use Rattle.tuple.specs.declared.Tuple.{Tuple}
use Rattle.tuple.proofs.Clauses as tuple_clauses
use Rattle.tuple.proofs.Masks.{mask_inside}
use Rattle.tuple.proofs.Sound as tuple_sound
use Rattle.vote.proofs.Stepwise as vote_steps
use Rattle.reserve.specs.Run as reserve_run
use Rattle.reserve.specs.declared.Reserve.{Reserve as ReserveState}
use Rattle.reserve.proofs.Clauses as reserve_clauses
use Rattle.reserve.proofs.Stepwise as reserve_steps
use Rattle.recording.specs.declared.Header.{Header}
use Rattle.listing.specs.declared.Kind.{Kind}
use Rattle.listing.specs.Runnable.{Runnable}
use Rattle.listing.proofs.ReadBack.{Answers, Listable}

-- what a listing can tell of a step
abbrev pub Tellable : ℕ → ℕ → ℕ → Type 0
Tellable word mark last = (word < 2 ^ 32) × (mark ≤ 2) × (last < 2 ^ 32)

pub confirm_tells :
    (n : ℕ) (s : ConfirmState) (x : ℕ) → confirm_steps.Sound n s → outside n x ≡ false
    → let t = confirm.clauses s x in Tellable (confirm_run.shown_word t) (confirm_run.shown_mark t) (confirm_run.shown_count t)
confirm_tells n s x g e =
    let u = confirm_steps.sound_next n s x g e in
    let few = count_range (confirm.clauses s x).state.need u.counted in
    (rw (confirm_clauses.shown_stays s x) (below n _ u.wide u.output_in), omega (arith, confirm_clauses.marks_few s x), omega (arith, u.small))

pub tuple_tells :
    (n : ℕ) (s : Tuple) (a b : ℕ) → tuple_sound.Sound n s
    → let t = tuple.clauses s a b in Tellable (tuple_run.shown_word t) (tuple_run.shown_mark t) (tuple_run.shown_mask t)
tuple_tells n s a b g =
    let u = (tuple_sound.sound_next n s g a b).confirm_sound in
    (rw (tuple_clauses.shown_stays s a b) (below n _ u.wide u.output_in), tuple_clauses.marks_few s a b, below (tuple.width s) _ (rw g.confirm_sound.width u.wide) (mask_inside s a b))

pub reserve_tells :
    (n : ℕ) (s : ReserveState) (x : reserve_run.Sample) → vote_steps.Sound n s.vote → outside_four n x ≡ false
    → let t = reserve_run.stepped s x in Tellable (reserve_run.shown_word t) (reserve_run.shown_mark t) (reserve_run.shown_pair t)
reserve_tells n s x g e =
    let u = reserve_steps.sound_next n s x g e in
    (rw (reserve_clauses.shown_stays s x) (below n _ u.wide u.word_in), reserve_clauses.marks_few s x, omega (arith, reserve_clauses.pairs_few s x))

-- the table of what the steps of a run show
abbrev pub table : {T : Type 0} → Header → Kind → (T → ℕ) → (T → ℕ) → (T → ℕ) → List T → Answers
table h kind word mark last ts = record { kind = kind; n = h.n; need = h.need; words = map word ts; marks = map mark ts; lasts = map last ts }

module _
    {S X T : Type 0} (step : S → X → T) (next : T → S) (Good : S → Type 0) (Fine : X → Type 0)
    (keeps : (s : S) (x : X) → Good s → Fine x → Good (next (step s x))) (d : X) where
  pub run_listable :
      (h : Header) → Runnable h → (kind : Kind) (word mark last : T → ℕ)
      → ((s : S) (x : X) → Good s → Fine x → let t = step s x in Tellable (word t) (mark t) (last t))
      → (s : S) (xs : List X) → Good s → ((i : ℕ) → i < length xs → Fine (get_or xs i d)) → length xs ≡ h.samples
      → Listable (table h kind word mark last (trace step next s xs))
  run_listable h run kind word mark last tells s xs g fine e =
      let ts = trace step next s xs in
      let long : (shown : T → ℕ) → length (map shown ts) ≡ h.samples = λ shown. length-map ts shown ∙ trace_length step next s xs ∙ e in
      let wide = width_range h.n run.wide in
      let counted = count_range h.need run.counted in
      record {
        n_in = omega arith;
        need_in = omega arith;
        samples_in = omega (arith, long word, run.few);
        marks_long = long mark ∙ sym (long word);
        lasts_long = long last ∙ sym (long word);
        words_in = column_shows step next Good Fine keeps d word (λ (w : ℕ). w < 2 ^ 32) (λ s x g f. (tells s x g f).0) s xs g fine;
        marks_in = λ i l. column_shows step next Good Fine keeps d mark (λ (w : ℕ). w ≤ 2) (λ s x g f. (tells s x g f).1) s xs g fine i (omega (arith, long word, long mark));
        lasts_in = λ i l. column_shows step next Good Fine keeps d last (λ (w : ℕ). w < 2 ^ 32) (λ s x g f. (tells s x g f).2) s xs g fine i (omega (arith, long word, long last));
      }
