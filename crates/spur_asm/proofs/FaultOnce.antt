-- A line has one fault at most.
use Rattle.std.proofs.Common.{◌≡◌, ◌∙◌, sym, ℕ, List, arith}
use Rattle.spur_asm.specs.Context.{Placed}
use Rattle.spur_asm.specs.Pieces.{Cut, IsCut}
use Rattle.spur_asm.specs.declared.fault.AsmKind.{AsmKind}
use Rattle.spur_asm.specs.declared.statement.Context.{Context}
use Rattle.spur_asm.specs.declared.statement.Statement.{Statement}
use Rattle.std.proofs.Common.{Option}
use Rattle.spur_asm.proofs.Judging.{same_misfit}
use Rattle.spur_asm.proofs.LineJudged.{Agrees, HasLineFault, line_judged}

-- two faults that both stand in the line are one
pub one_fault : (line : List ℕ) (lines : List Cut) (cut : Cut) (behind : List Cut) (all : List Placed) (c : Context) → IsCut line cut → Agrees lines cut behind all c
    → (kind other : AsmKind) (left less : ℕ) (f : HasLineFault lines cut behind left kind) (g : HasLineFault lines cut behind less other) → (kind ≡ other) × (f.before ≡ g.before)
one_fault line lines cut behind all c is a kind other left less f g =
    let one = (line_judged line lines cut behind all c is a kind left).1 f in
    let two = (line_judged line lines cut behind all c is a other less).1 g in
    let same = same_misfit {B = Option Statement} kind other left less (sym one ∙ two) in
    let place = f.place in
    let again = g.place in
    let left_is : left ≡ less = same.1 in
    (same.0, omega (arith, place, again, left_is))
