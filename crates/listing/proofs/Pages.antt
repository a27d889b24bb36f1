-- Laws of pages: one text, and another, are the two in a row; and a page that was made of a buffer and ends leaves it written.
use mathlib.Core.Path.{◌≡◌, ◌∙◌}
use mathlib.Core.List.{List, ◌++◌}
use Prim.Native.Nat.{ℕ}
use Rattle.text.specs.Put.{Writes}
use Rattle.text.proofs.Laws.{and_then}
use Rattle.listing.specs.declared.sheet.Page.{Page}
use Rattle.listing.specs.Runnable.{Adds}

pub also : {old mid new : Page} {s t : List ℕ} → Adds old mid s → Adds mid new t → Adds old new (s ++ t)
also p q = record { same = q.same ∙ p.same; wrote = and_then p.wrote q.wrote }

pub ended : {old new : Page} {text last : List ℕ} → Adds old new text → last ≡ new.out.now → Writes old.out.now old.at text new.at last
ended p e = rw e p.wrote
