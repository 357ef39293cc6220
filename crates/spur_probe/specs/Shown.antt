-- Entries are shown to the probes of a list.
use Rattle.std.specs.Prelude.{ℕ, ◌+◌, Bool, true, false, if◌then◌else◌, List, [], ◌∷◌, map, Option, Some, None}
use Rattle.std.specs.List.{position_from}
use Rattle.spur_flat.specs.declared.entry.Entry.{Entry}
use Rattle.spur_probe.specs.declared.probe.ProbeLine.{ProbeLine}
use Rattle.spur_probe.specs.declared.probe.Wish.{Wish}
use Rattle.spur_probe.specs.declared.probe.Wish.TheVariants.{GoOn, Stop}
use Rattle.spur_probe.specs.declared.show.StopAt.{StopAt}
use Rattle.spur_probe.specs.Rules.{Rule}

-- what is known of one probe
pub record Told : Type 0 where
  pub rule : Rule
  pub reads : List ℕ → ℕ
  pub state : List ℕ

abbrev pub told : Rule → (List ℕ → ℕ) → List ℕ → Told
told rule reads state = record { rule = rule; reads = reads; state = state }

-- the probe after an entry, and whether it wishes a stop there
abbrev pub moved : Entry → Told → Told
moved e probe = record probe { state = (probe.rule probe.state e).0 }

abbrev pub wants_stop : Wish → Bool
wants_stop GoOn = false
wants_stop Stop = true

abbrev pub stops : Entry → Told → Bool
stops e probe = wants_stop (probe.rule probe.state e).1

-- the probes after an entry: those up to the first that wishes a stop were shown it
abbrev pub after_entry : Entry → List Told → List Told
after_entry e [] = []
after_entry e (probe ∷ probes) = moved e probe ∷ (if stops e probe then probes else after_entry e probes)

-- the place of the first probe that wishes a stop at an entry
abbrev pub stopped_at : Entry → List Told → Option ℕ
stopped_at e probes = position_from (stops e) 0 probes

-- one of two, by whether there was a stop
abbrev pub unless_stopped : {A : Type 0} → Option ℕ → A → A → A
unless_stopped (Some place) stopped on = stopped
unless_stopped None stopped on = on

-- the probes after entries: those up to the first at which one wishes a stop were shown
abbrev pub after_entries : List Entry → List Told → List Told
after_entries [] probes = probes
after_entries (e ∷ es) probes =
    unless_stopped (stopped_at e probes) (after_entry e probes) (after_entries es (after_entry e probes))

-- the stop of a probe at the entry with this number, and where there is none a later one
abbrev pub stop_or : ℕ → Option ℕ → Option StopAt → Option StopAt
stop_or n None later = later
stop_or n (Some place) later = Some (record { entry = n; probe = place })

-- the first wish to stop, where the first entry has this number
abbrev pub first_stop : ℕ → List Entry → List Told → Option StopAt
first_stop n [] probes = None
first_stop n (e ∷ es) probes = stop_or n (stopped_at e probes) (first_stop (n + 1) es (after_entry e probes))

-- the probes after entries that all of them were shown, whatever they wished
abbrev pub after_all : List Entry → List Told → List Told
after_all [] probes = probes
after_all (e ∷ es) probes = after_all es (map (moved e) probes)

-- what a report tells of a probe: the number that is read off its state
abbrev pub told_line : Told → ProbeLine
told_line probe = record { number = probe.reads probe.state }
