-- Numbers that were put into bytes read back: one field, a list of them, and so a column, wherever it stands.
use Prim.Native.Nat.{ℕ, zero, suc, ◌+◌, ◌*◌, ◌^◌, ◌<◌}
use mathlib.Core.Path.{◌≡◌, ◌∙◌}
use mathlib.Core.List.{List, [], ◌∷◌, ◌++◌}
use native.Mathlib.Nat.{add_assoc}
use native.Mathlib.Omega.{arith}
use lib.ListN.{length, get_or}
use lib.Seq.{get_or-append-add, ext_get_or}
use Rattle.std.proofs.lemmas.Nat.{from_le_bytes-to_le_bytes_4}
use Rattle.rules.specs.Signals.{as_list}
use Rattle.rules.proofs.Signals.{list_length, list_at}
use Rattle.recording.specs.Fields.{field_bytes, fields_of}
use Rattle.recording.specs.Recording.{field, column_at, sample_at}

-- a number's four bytes
bytes_read : (w : ℕ) (rest : List ℕ) → w < 2 ^ 32 → field (field_bytes w ++ rest) 0 ≡ w
bytes_read w rest h = omega (arith, from_le_bytes-to_le_bytes_4 w h)

-- behind other bytes
field_behind : (xs ys : List ℕ) (at : ℕ) → field (xs ++ ys) (length xs + at) ≡ field ys at
field_behind xs ys at =
    rw (add_assoc (length xs) at 1, add_assoc (length xs) at 2, add_assoc (length xs) at 3, get_or-append-add xs ys at 0, get_or-append-add xs ys (at + 1) 0, get_or-append-add xs ys (at + 2) 0, get_or-append-add xs ys (at + 3) 0)

-- place i of a list of numbers
pub fields_read : (ws rest : List ℕ) (i : ℕ) → i < length ws → ((j : ℕ) → j < length ws → get_or ws j 0 < 2 ^ 32) → field (fields_of ws ++ rest) (4 * i) ≡ get_or ws i 0
unfolding fields_of
fields_read [] rest i l small = absurd (let z : i < 0 = l in omega arith)
fields_read (w ∷ ws) rest zero l small = bytes_read w (fields_of ws ++ rest) (small 0 (omega arith))
fields_read (w ∷ ws) rest (suc i) l small =
    let e : 4 * suc i ≡ 4 + 4 * i = omega arith in
    rw e
    (field_behind (field_bytes w) (fields_of ws ++ rest) (4 * i) ∙ fields_read ws rest i (let z : suc i < suc (length ws) = l in omega arith) (λ j m. small (suc j) (omega arith)))

-- what the reader fills is the column that was put there
pub column_read :
    (before ws rest : List ℕ) (k : ℕ) → length before ≡ column_at (length ws) k → ((j : ℕ) → j < length ws → get_or ws j 0 < 2 ^ 32)
    → as_list (length ws) (sample_at (before ++ (fields_of ws ++ rest)) (length ws) k) ≡ ws
column_read before ws rest k e small =
    let f = sample_at (before ++ (fields_of ws ++ rest)) (length ws) k in
    ext_get_or 0 (as_list (length ws) f) ws (list_length f (length ws))
    (λ i l.
    let m : i < length ws = rw (list_length f (length ws)) at l in
    list_at f (length ws) i m ∙ rw (← e) (field_behind before (fields_of ws ++ rest) (4 * i)) ∙ fields_read ws rest i m small)
