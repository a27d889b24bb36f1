-- The text of a recording: which one it is, that it fits the buffer, and so what the listing leaves there.
use mathlib.Core.Path.{◌≡◌, refl, ap, ◌∙◌}
use mathlib.Core.Bool.{false}
use mathlib.Core.List.{List}
use Prim.Native.Nat.{ℕ, ◌≤◌, ◌<◌}
use native.Mathlib.Nat.{zero-add}
use native.Mathlib.Omega.{arith}
use lib.ListN.{length, take}
use borrow.Author.Tests.{le-ltb}
use Rattle.rules.proofs.Ranges.{count_range, width_range}
use Rattle.rules.proofs.Signals.{list_length}
use Rattle.trace.specs.Answers.{RunResult}
use Rattle.rules.specs.Refusal.{number}
use Rattle.std.specs.Prelude.{Ok, Err}
use Rattle.trace.specs.declared.Refused.{Refused}
use Rattle.trace.specs.Answers.{done}
use Rattle.recording.specs.Recording.{header_of, sample_at, read_of}
use Rattle.recording.proofs.Longer.{cut, long_refused}
use Rattle.recording.proofs.Taken.{Accepted, taken}
use Rattle.text.specs.Put.{laid, Writes}
use Rattle.text.proofs.Laws.{laid_length}
use Rattle.listing.specs.declared.Kind.{Kind}
use Rattle.listing.specs.Listing.{listing_of, units_text, unit, refused_text, text_of, longest, answer_for, written_of, Lists}
use Rattle.listing.proofs.Bounds.{listing_most, refused_most}
use Rattle.listing.proofs.Columns.{runnable}
use Rattle.listing.proofs.Shown.{units_shown}

shown_written : (a : RunResult) (r : ℕ) → written_of (answer_for a r) ≡ r
shown_written (Ok x) r = refl
shown_written (Err x) r = refl

module _ (s : List ℕ) where
  pub accepted_text : (ok : Accepted false s) → (read_of false s).answer ≡ done → text_of s ≡ (let h = header_of s in units_text h (unit s h 1) (unit s h 2) (unit s h 3) (unit s h 4))
  unfolding text_of
  accepted_text ok e = rw (e, ok.shown)

  pub refused_text_lem : (r : Refused) → (read_of false s).answer ≡ Err r → text_of s ≡ refused_text (number r.refusal) r.sample
  unfolding text_of
  refused_text_lem r e = rw e

  -- what holds of every listing of as many words as there are samples holds of an accepted recording's text
  pub accepted_shown :
      (P : List ℕ → Type 0)
      → (let h = header_of s in (kind : Kind) (words marks lasts : List ℕ) → length words ≡ h.samples → P (listing_of kind h.n h.need words marks lasts))
      → (read_of false s).answer ≡ done → P (text_of s)
  accepted_shown P each e =
      let h = header_of s in
      let long : (k : ℕ) → length (unit s h k) ≡ h.samples = λ k. list_length (sample_at s h.samples k) h.samples in
      rw (accepted_text (taken false s e) e) (units_shown h P each (unit s h 1) (unit s h 2) (unit s h 3) (unit s h 4) (long 1) (long 2) (long 3) (long 4))

  -- input beyond the longest recording has the text that its first bytes have, if there is one more of them than that
  pub text_cut : (c : ℕ) → 41004 < c → c ≤ length s → text_of (take c s) ≡ text_of s
  unfolding text_of
  text_cut c m l = rw (cut false s c m l, ← long_refused false s (omega arith))

  -- every text fits
  pub text_most : length (text_of s) ≤ longest
  text_most = go (read_of false s).answer refl where
    go : (a : RunResult) → (read_of false s).answer ≡ a → length (text_of s) ≤ longest
    go (Ok x) e =
        let run = runnable s (taken false s e) in
        accepted_shown (λ (text : List ℕ). length text ≤ longest)
        (λ kind words marks lasts l. listing_most kind _ _ words marks lasts (rw l run.few) (width_range _ run.wide).1 (count_range _ run.counted).1) e
    go (Err r) e = rw (refused_text_lem r e) (refused_most (number r.refusal) r.sample)

  -- so the listing leaves it at the start of the buffer
  pub lists :
      (out : List ℕ) (a : RunResult) {r : ℕ} {new : List ℕ} → longest ≤ length out → (read_of false s).answer ≡ a → Writes out 0 (text_of s) r new
      → Lists s out (answer_for a r) new
  unfolding laid
  lists out a {r} {new} room e writes =
      let w = writes (omega (arith, text_most)) in
      let long = le-ltb (length out) longest room in
      let next : r ≡ length (text_of s) = w.next ∙ zero-add (length (text_of s)) in
      let same : length new ≡ length out = ap length w.buffer ∙ laid_length out 0 (text_of s) (omega (arith, text_most)) in
      record {
        answered = rw (long, e, ← next);
        within = rw (shown_written a r) (omega (arith, w.room));
        out_after = rw long (w.buffer ∙ rw zero-add);
      }
