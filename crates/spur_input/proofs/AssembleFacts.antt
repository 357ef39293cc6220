-- Texts that are assembled, and those that are refused.
use Rattle.std.proofs.Common.{◌⊎◌, inl, inr, refl, ℕ, ◌≤◌, List, length}
use Rattle.spur_object.specs.declared.unit.Unit.{Unit as Program}
use Rattle.spur_asm.proofs.Theorems.{says_once}
use Rattle.spur_input.specs.declared.refusal.Refusal.{Refusal}
use Rattle.spur_input.specs.declared.refusal.Refusal.TheVariants.{Text}
use Rattle.spur_input.specs.Program.{IsAssembled, program_limit}
use Rattle.spur_input.specs.Refused.{HasFirstFault, IsLongText, IsRefusedToAssemble}
use Rattle.spur_input.specs.Laws.{AssembledIsNotRefused, OneIsAssembled, OneRefusalToAssemble, TextIsAssembledOrRefused}
use Rattle.spur_input.proofs.ProgramFacts.{first_once, said_has_none}
use Rattle.spur_input.proofs.RunFacts.{IsFaulty, IsReadOrNot, IsSaid, read_or_not, too_long}

-- a text has one refusal at most
pub one_refusal_to_assemble : OneRefusalToAssemble
one_refusal_to_assemble text one other (IsLongText l) (IsLongText m) = refl
one_refusal_to_assemble text one other (IsLongText l) (HasFirstFault w line column kind f) = absurd (too_long program_limit (length text) w l)
one_refusal_to_assemble text one other (HasFirstFault w line column kind f) (IsLongText l) = absurd (too_long program_limit (length text) w l)
one_refusal_to_assemble text one other (HasFirstFault w line column kind f) (HasFirstFault v l c k g) = first_once text line column kind l c k f g

-- a text that is assembled is not refused
pub assembled_is_not_refused : AssembledIsNotRefused
assembled_is_not_refused text unit refusal ok (IsLongText l) = too_long program_limit (length text) ok.within l
assembled_is_not_refused text unit refusal ok (HasFirstFault w l c k f) = said_has_none text unit l c k ok.says f

-- a text is assembled to one unit
pub one_is_assembled : OneIsAssembled
one_is_assembled text one other ok as_well = says_once text one other ok.says as_well.says

answered : (text : List ℕ) → length text ≤ program_limit → IsReadOrNot text → ((unit : Program) × IsAssembled text unit) ⊎ ((refusal : Refusal) × IsRefusedToAssemble text refusal)
answered text within (IsSaid unit says) = inl (unit, record { within = within; says = says })
answered text within (IsFaulty line column kind first) = inr (Text kind line column, HasFirstFault within line column kind first)

-- a text is assembled or refused
pub text_is_assembled_or_refused : TextIsAssembledOrRefused
text_is_assembled_or_refused text within = answered text within (read_or_not text)
