use Rattle.std.proofs.Common.{rules, subst}
use Rattle.cell.specs.declared.register.Register.{Register}
use Rattle.cell.specs.Keeps.{Keeps}
use Rattle.cell.proofs.Doing.{act_keeps}
use Rattle.cell.proofs.act.Cell+F+F+Output.act.Goals as goal

-- a cell that a call leaves keeps what every cell keeps
pub invariant_of-bay : goal.invariant_of-bay
invariant_of-bay g c =
    let x = c.turn-task.result in
    let k = act_keeps g.F.Future.step c.args.act (record { task = c.self.inside.task; register = c.self.inside.register }) c.self.invariant x c.turn-task.ensures (search rules) c.if-report.false in
    subst (λ (r : Register). Keeps (record { task = x.task; register = r })) (search rules) k
