-- A program's text with a trace behind it, and what the trace is judged.
use Rattle.std.specs.Prelude.{◌≡◌, ◌⊎◌, ℕ, ◌≤◌, Bool, true, ◌&&◌, ◌==◌, if◌then◌else◌, List, [], ◌∷◌, ◌++◌, length, None}
use Rattle.spur_flat.specs.declared.entry.Entry.{Entry}
use Rattle.spur_object.specs.declared.unit.Unit.{Unit as Program}
use Rattle.spur_trace.specs.declared.head.TraceHead.{TraceHead}
use Rattle.spur_trace.specs.Faults.{IsTrace}
use Rattle.spur_asm.specs.Says.{Says}
use Rattle.spur_loader.specs.declared.opening.Options.{Options}
use Rattle.spur_loader.specs.Faults.{load_fault_of}
use Rattle.spur_loader.specs.Opening.{opening_of}
use Rattle.spur_check.specs.declared.verdict.Verdict.{Verdict}
use Rattle.spur_check.specs.Judged.{judged}
use Rattle.spur_input.specs.Program.{check_limit}

-- ---- where the trace begins: at the first line that begins with a percent sign (37)

-- up to there, where the first of these bytes begins a line or not
abbrev pub program_from : Bool → List ℕ → List ℕ
program_from begins [] = []
program_from begins (byte ∷ bytes) = if begins && (byte == 37) then [] else byte ∷ program_from (byte == 10) bytes

-- from there on
abbrev pub trace_from : Bool → List ℕ → List ℕ
trace_from begins [] = []
trace_from begins (byte ∷ bytes) = if begins && (byte == 37) then byte ∷ bytes else trace_from (byte == 10) bytes

-- the program's text
unfoldable pub program_part : List ℕ → List ℕ
program_part input = program_from true input

-- the text of the trace
unfoldable pub trace_part : List ℕ → List ℕ
trace_part input = trace_from true input

-- a line begins behind these bytes: there are none, or the last of them is a line feed (10)
abbrev pub EndsLine : List ℕ → Type 0
EndsLine bytes = (bytes ≡ []) ⊎ ((front : List ℕ) × (bytes ≡ front ++ 10 ∷ []))

-- two parts of an input: in the first no line begins with a percent sign, and the second is empty, or begins with one
-- where a line begins
pub record IsCutAtTrace (input program trace : List ℕ) : Type 0 where
  pub whole : input ≡ program ++ trace
  pub none_before : (front behind : List ℕ) → program ≡ front ++ 37 ∷ behind → EndsLine front → ⊥
  pub begins : (trace ≡ []) ⊎ ((behind : List ℕ) × (trace ≡ 37 ∷ behind) × EndsLine program)

-- ---- what is judged

-- the options with which the program is loaded: the frames and lines of the trace's header, and this budget
abbrev pub head_options : ℕ → TraceHead → Options
head_options budget head = record { frames = head.frames; lines = head.lines; budget = budget; ahead = 0 }

-- the program's part says the unit, to which no load fault applies, and the rest is a trace of as many boards
pub record IsJudgeable (budget : ℕ) (input : List ℕ) (unit : Program) (head : TraceHead) (entries : List Entry)
    : Type 0 where
  pub within : length input ≤ check_limit
  pub says : Says (program_part input) unit
  pub trace : IsTrace (trace_part input) head entries
  pub boards : head.boards ≡ length unit.boards
  pub loads : load_fault_of unit (head_options budget head) ≡ None

-- what the entries of the trace are judged, as a history of the program
pub record IsVerdictOn (budget : ℕ) (input : List ℕ) (verdict : Verdict) : Type 0 where
  pub unit : Program
  pub head : TraceHead
  pub entries : List Entry
  pub judgeable : IsJudgeable budget input unit head entries
  pub is : verdict ≡ judged (opening_of unit (head_options budget head)) entries
