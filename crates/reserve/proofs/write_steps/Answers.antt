-- `reserve::write_steps` meets its contract: units 1 and 2 up to their first alarm, and units 3 and 4 from the hand-over on.
use Rattle.reserve.proofs.Parts.{in_parts_shown, in_one_shown}
use Rattle.reserve.proofs.write_steps.Goals as goal

pub returns-then-over-a : goal.returns-then-over-a
returns-then-over-a c =
    let pre = c.requires in
    in_parts_shown _ pre.phase_value _ _ _ _ _ _ pre.as_long pre.a_len.0 pre.a_len.1 c.write_steps-primary.ensures _ _ _ c.take_over.ensures

pub returns-else-over-a : goal.returns-else-over-a
returns-else-over-a c =
    let pre = c.requires in
    in_one_shown _ pre.phase_value _ _ _ _ _ _ pre.as_long pre.a_len.0 pre.a_len.1 c.write_steps-primary.ensures c.if-over-a.false
