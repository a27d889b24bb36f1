-- `recording::shape` meets its contract: the rows of the head, and where they refuse nothing those of the layout.
use mathlib.Core.Path.{◌≡◌, refl, sym, ap, ◌∙◌}
use Rattle.std.specs.Prelude.{Ok, Err}
use Rattle.rules.specs.Refusal.{told}
use Rattle.rules.specs.Table.{first}
use Rattle.rules.proofs.Tables.{told_err, told_ok, refuses, works, or_err, or_ok, raised}
use Rattle.recording.specs.declared.Header.{Header}
use Rattle.recording.specs.Recording.{header_of, layout_rows}
use Rattle.recording.proofs.Shapes.{headed, head_decides, layout_decides}
use Rattle.recording.proofs.shape.Goals as goal

pub returns-in_err-header : goal.returns-in_err-header
returns-in_err-header c =
    let a = c.args in
    let head = or_err _ _ (sym c.head.ensures ∙ c.in_err-header.was) in
    let shape = sym (head_decides a.mislent a.bytes.now refl (told_err head).0) in
    raised c.from_residual.ensures.1 ∙ refuses (λ r. Err r) (Ok (header_of a.bytes.now)) _ (ap told shape ∙ head)

pub layout_refusal-requires : goal.layout_refusal-requires
layout_refusal-requires c =
    let a = c.args in
    let found = or_ok _ _ (sym c.head.ensures ∙ c.in_ok-header.was) in
    let h = headed a.mislent a.bytes.now found.0 in
    rw (← found.1) (h.long, h.few, h.units_few)

pub returns-in_err-layout_refusal : goal.returns-in_err-layout_refusal
returns-in_err-layout_refusal c =
    let a = c.args in
    let found = or_ok _ _ (sym c.head.ensures ∙ c.in_ok-header.was) in
    let told_so : told (first (layout_rows a.bytes.now (header_of a.bytes.now))) ≡ Err c.in_err-layout_refusal.field-0.0
    = ap (λ (h : Header). told (first (layout_rows a.bytes.now h))) found.1 ∙ sym c.layout_refusal.ensures ∙ c.in_err-layout_refusal.was in
    raised c.from_residual-in_err-layout_refusal.ensures.1
    ∙ refuses (λ r. Err r) (Ok (header_of a.bytes.now)) _ (ap told (layout_decides a.mislent a.bytes.now found.0) ∙ told_so)

pub returns : goal.returns
returns c =
    let a = c.args in
    let found = or_ok _ _ (sym c.head.ensures ∙ c.in_ok-header.was) in
    let none : told (first (layout_rows a.bytes.now (header_of a.bytes.now))) ≡ Ok c.in_ok-layout_refusal.field-0
    = ap (λ (h : Header). told (first (layout_rows a.bytes.now h))) found.1 ∙ sym c.layout_refusal.ensures ∙ c.in_ok-layout_refusal.was in
    ap (λ (h : Header). Ok h) (sym found.1)
    ∙ works (λ r. Err r) (Ok (header_of a.bytes.now)) _ (layout_decides a.mislent a.bytes.now found.0 ∙ told_ok none)
