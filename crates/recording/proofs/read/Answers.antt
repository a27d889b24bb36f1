-- `recording::read` meets its contract: a refused recording fills no place, and of an accepted one each column lies in the bytes.
use mathlib.Core.Path.{◌≡◌, refl, sym, ap, ◌∙◌}
use mathlib.Core.Bool.{Bool, not}
use mathlib.Core.List.{List, [], ◌∷◌}
use Prim.Native.Nat.{ℕ}
use lib.ListN.{length}
use lib.Pointwise.{pointwise}
use Rattle.std.specs.Prelude.{nat_eq, Ok}
use Rattle.recording.specs.declared.Header.{Header}
use Rattle.recording.specs.declared.RecordingRead.{RecordingRead}
use Rattle.recording.specs.Recording.{header_of, mislent, zeros, refused_at, read_as, read_of, Laid}
use Rattle.recording.proofs.Compared.{lengths_compared}
use Rattle.recording.proofs.Taken.{taken, full, refused_read}
use Rattle.recording.proofs.read.Goals as goal

module _ (s times one two three four : List ℕ) {m : Bool}
    (differ : m ≡ not (pointwise nat_eq (length times ∷ length one ∷ length two ∷ length three ∷ length four ∷ []) (2048 ∷ 2048 ∷ 2048 ∷ 2048 ∷ 2048 ∷ []))) where
  -- the reader's answer, with the lengths as its definition has them
  answered : {r : RecordingRead} → r ≡ read_of m s → r ≡ read_of (mislent times one two three four) s
  answered e = rw (← lengths_compared times one two three four, ← differ) e

  -- an accepted recording is laid as its header says, and each lent slice has 2,048 places
  ready :
      {h : Header} → read_as (Ok h) ≡ read_of m s
      → Laid s h
      × (((((length times ≡ 2048) × (length one ≡ 2048)) × (length two ≡ 2048)) × (length three ≡ 2048)) × (length four ≡ 2048))
  ready {h} e =
      let told : read_as (Ok h) ≡ read_of (mislent times one two three four) s = answered e in
      let ok = taken (mislent times one two three four) s (ap (λ (r : RecordingRead). r.answer) (sym told)) in
      let same : h ≡ header_of s = ap (λ (r : RecordingRead). r.header) told ∙ ok.shown in
      (rw same ok.shape.laid, full times one two three four ok.shape.full)

-- the default header is zeros
zeroed : (h : Header) → h.units ≡ 0 → h.samples ≡ 0 → h.n ≡ 0 → h.need ≡ 0 → h.word ≡ 0 → h ≡ zeros
zeroed h units samples n need word =
    let same : ◌≡◌ {A = Header} (record { units = h.units; samples = h.samples; n = h.n; need = h.need; word = h.word }) zeros
    = rw (units, samples, n, need, word) in
    same

pub returns-in-Err : goal.returns-in-Err
returns-in-Err c =
    let a = c.args in
    let default = c.default.ensures in
    let header = zeroed c.default.result default.0 default.1.0 default.1.1.0 default.1.1.1.0 default.1.1.1.1 in
    let told = answered a.bytes.now a.times.now a.one.now a.two.now a.three.now a.four.now c.ne-mislent.ensures c.in-Err.ensures in
    rw header (refused_read a.bytes.now a.times.now a.one.now a.two.now a.three.now a.four.now (refused_at c.in-Err.refused) _ told refl)

pub invariant_of-recording : goal.invariant_of-recording
invariant_of-recording c =
    let a = c.args in
    record { laid = (ready a.bytes.now a.times.now a.one.now a.two.now a.three.now a.four.now c.ne-mislent.ensures c.in-Ok.ensures).0 }

pub fill-requires : goal.fill-requires
fill-requires c =
    let a = c.args in
    (ready a.bytes.now a.times.now a.one.now a.two.now a.three.now a.four.now c.ne-mislent.ensures c.in-Ok.ensures).1.0.0.0.0

pub fill-requires-2 : goal.fill-requires-2
fill-requires-2 c =
    let a = c.args in
    (ready a.bytes.now a.times.now a.one.now a.two.now a.three.now a.four.now c.ne-mislent.ensures c.in-Ok.ensures).1.0.0.0.1

pub fill-requires-3 : goal.fill-requires-3
fill-requires-3 c =
    let a = c.args in
    (ready a.bytes.now a.times.now a.one.now a.two.now a.three.now a.four.now c.ne-mislent.ensures c.in-Ok.ensures).1.0.0.1

pub fill-requires-4 : goal.fill-requires-4
fill-requires-4 c =
    let a = c.args in
    (ready a.bytes.now a.times.now a.one.now a.two.now a.three.now a.four.now c.ne-mislent.ensures c.in-Ok.ensures).1.0.1

pub fill-requires-5 : goal.fill-requires-5
fill-requires-5 c =
    let a = c.args in
    (ready a.bytes.now a.times.now a.one.now a.two.now a.three.now a.four.now c.ne-mislent.ensures c.in-Ok.ensures).1.1

pub returns : goal.returns
returns c =
    let a = c.args in
    record {
      answered = answered a.bytes.now a.times.now a.one.now a.two.now a.three.now a.four.now c.ne-mislent.ensures c.in-Ok.ensures;
      times_after = c.fill.ensures;
      one_after = c.fill-2.ensures;
      two_after = c.fill-3.ensures;
      three_after = c.fill-4.ensures;
      four_after = c.fill-5.ensures;
    }
