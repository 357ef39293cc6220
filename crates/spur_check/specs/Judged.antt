-- What a history is judged: one definition over its opening and its entries.
use Rattle.std.specs.Prelude.{ℕ, ◌≡◌, ◌+◌, List, [], ◌∷◌, Option, Some, None, length, replicate}
use Rattle.spur_snoop.specs.Size.{IsBoardCount}
use Rattle.spur_isa.specs.declared.instr.Instr.{Instr}
use Rattle.spur_flat.specs.declared.illegal.Illegal.{Illegal}
use Rattle.spur_flat.specs.declared.entry.Entry.{Entry}
use Rattle.spur_flat.specs.Refused.{or_else}
use Rattle.spur_flat.specs.Needed.{numbers_on}
use Rattle.spur_flat.specs.State.{State, step, state_refusal}
use Rattle.spur_flat.specs.Validity.{IsValidFlat}
use Rattle.spur_cpu.specs.Meaning.{Meaning}
use Rattle.spur_cpu.specs.After.{begun}
use Rattle.spur_cpu.specs.Plain.{Plain, opened, plain}
use Rattle.spur_loader.specs.declared.opening.Opening.{Opening}
use Rattle.spur_loader.specs.Limits.{IsOptions}
use Rattle.spur_loader.specs.Opening.{board_count, first_state}
use Rattle.spur_check.specs.declared.verdict.Verdict.{Verdict}
use Rattle.spur_check.specs.declared.verdict.Verdict.TheVariants.{Good, Bad}
use Rattle.spur_check.specs.Replays.{Replayed, replay_refusal, replays_on}

-- how far the judging has come: the state that stands, the numbers of each board's open entries, where each board's
-- program has come, and how many entries were judged
pub record Progress (S : Type 0) : Type 0 where
  pub state : State
  pub numbers : List (List ℕ)
  pub replays : List (Replayed S)
  pub count : ℕ

-- the entry with this number is refused, or else it is as what follows is judged
abbrev pub verdict_or : Option Illegal → ℕ → Verdict → Verdict
verdict_or None number rest = rest
verdict_or (Some why) number rest = Bad number why.clause why.wanted why.found

module _ {S : Type 0} (m : Meaning S) where
  -- why an entry may not follow: by its board's program first; then by what it may be answered, by the value that was
  -- read, by the pager's conditions, by the tags, and by the open entries
  abbrev pub entry_refusal : Progress S → Entry → Option Illegal
  entry_refusal p entry = or_else (replay_refusal m p.replays entry) (state_refusal p.numbers p.state entry)

  -- one entry further
  abbrev pub progress_on : Progress S → Entry → Progress S
  progress_on p entry = record {
    state = step p.state entry;
    numbers = numbers_on p.numbers (p.count + 1) entry;
    replays = replays_on m p.replays entry;
    count = p.count + 1;
  }

  abbrev pub progress_after : Progress S → List Entry → Progress S
  progress_after p [] = p
  progress_after p (entry ∷ rest) = progress_after (progress_on p entry) rest

  -- a history: Bad at the first entry that is refused, with its number, the first rule that it breaks and the rule's
  -- two numbers; else Good with the number of all entries
  abbrev pub judged_from : Progress S → List Entry → Verdict
  judged_from p [] = Good p.count
  judged_from p (entry ∷ rest) =
      verdict_or (entry_refusal p entry) (p.count + 1) (judged_from (progress_on p entry) rest)

-- ---- from an opening

-- a board at the beginning of its code
abbrev pub first_replay : ℕ → List ℕ → List Instr → Replayed Plain
first_replay budget segs code = record { segs = segs; budget = budget; course = begun (opened code) }

-- all boards there: those that have segment registers and a code
abbrev pub first_replays : ℕ → List (List ℕ) → List (List Instr) → List (Replayed Plain)
first_replays budget [] codes = []
first_replays budget (segs ∷ more) [] = []
first_replays budget (segs ∷ more) (code ∷ codes) = first_replay budget segs code ∷ first_replays budget more codes

-- before all entries
abbrev pub first_progress : Opening → Progress Plain
first_progress opening = record {
  state = first_state opening;
  numbers = replicate (board_count opening) [];
  replays = first_replays opening.options.budget opening.segs opening.code;
  count = 0;
}

-- what a history of an opening is judged
abbrev pub judged : Opening → List Entry → Verdict
judged opening history = judged_from plain (first_progress opening) history

-- an opening of which a history may be judged: its flat state is valid, it has 1 to 12 boards and a code for each, and
-- its options are in their ranges
pub record MayBeJudged (opening : Opening) : Type 0 where
  pub valid : IsValidFlat opening.flat
  pub boards : IsBoardCount (board_count opening)
  pub codes : length opening.code ≡ board_count opening
  pub options : IsOptions opening.options
