use Rattle.std.proofs.Common.{◌≡◌, refl, sym, rules, Err}
use Rattle.spur_isa.specs.declared.instr.Instr.{Instr}
use Rattle.spur_isa.specs.declared.instr.Instr.TheVariants.{Halt}
use Rattle.spur_isa.specs.Ranges.{IsInstr}
use Rattle.spur_isa.specs.Word.{instr_word}
use Rattle.spur_object.specs.declared.fault.ObjKind.TheVariants.{BadWord}
use Rattle.spur_object.specs.Fields.{instr_fields, number_field}
use Rattle.spur_object.proofs.CursorFacts.{one_begins, out, short_stop, wrong_stop}
use Rattle.spur_object.proofs.InstrFacts.{instr_below}
use Rattle.spur_object.proofs.cursor.Cursor.instr.Goals as goal

pub returns-in_err-word-clause-fault : goal.returns-in_err-word-clause-fault
returns-in_err-word-clause-fault c =
    let is : c.from_residual.result ≡ Err c.in_err-word.field-0.0 = search rules in
    let stop = short_stop IsInstr instr_fields c.args.self.now Halt (number_field BadWord (instr_word Halt)) tt refl c.in_err-word.field-0.0 c.in_err-word.ensures.short in
    out IsInstr instr_fields c.args.self.now c.args.self.now c.from_residual.result c.in_err-word.field-0.0 is stop

pub returns-in_default-clause-fault : goal.returns-in_default-clause-fault
returns-in_default-clause-fault c =
    let none : (x : Instr) → IsInstr x → instr_word x ≡ c.in_ok-word.word → ⊥ = λ x is same. c.in_default.ensures.only x is (sym same) in
    wrong_stop IsInstr BadWord instr_word c.args.self.now c.in_ok-word.word Halt
    tt tt c.in_ok-word.ensures.there c.in_ok-word.ensures.bytes (search rules) instr_below none

pub returns-clause-found : goal.returns-clause-found
returns-clause-found c =
    one_begins IsInstr BadWord instr_word c.args.self.now c.pass.new.self c.in_ok-word.word c.in-Ok.instr
    c.in-Ok.ensures.ranges c.in-Ok.ensures.found c.in_ok-word.ensures.bytes c.pass.ensures
