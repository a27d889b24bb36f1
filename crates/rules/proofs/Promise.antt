-- A contract that is a definition applied to the inputs determines what is seen of the call.
use mathlib.Core.Path.{◌≡◌, sym, ◌∙◌}
use Rattle.rules.specs.Promise.{Fixes}

pub fixes : {A Z E O : Type 0} {P : A → Z → E → Type 0} {see : Z → E → O} {f : A → O} → ((a : A) (z : Z) (e : E) → P a z e → see z e ≡ f a) → Fixes P see f
fixes says = record { says = says; unique = λ a z z' e e' p q. says a z e p ∙ sym (says a z' e' q) }
