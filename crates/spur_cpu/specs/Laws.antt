-- Laws of where a board has come, over any processor's meaning.
use Rattle.std.specs.Prelude.{◌≡◌, ◌≢◌, ℕ, ◌+◌, ◌<◌, List, [], ◌∷◌, ◌++◌, Some, None}
use Rattle.spur_flat.specs.declared.access.FaultKind.{FaultKind}
use Rattle.spur_flat.specs.declared.entry.Entry.{Entry}
use Rattle.spur_cpu.specs.declared.cpu.Want.TheVariants.{Ended}
use Rattle.spur_cpu.specs.Meaning.{Meaning}
use Rattle.spur_cpu.specs.After.{Stop, Halted, Faulty, Course, HasBudgetLeft, IsLed, after, begun, carry_entry, carry_local}

module _ {S : Type 0} (m : Meaning S) where
  -- a piece of entries and instructions that leads to a course, and what follows from there, are one piece
  abbrev pub Pieces : Type 0
  Pieces = (segs : List ℕ) (budget : ℕ) (c d : Course S) (es fs : List Entry) (n k : ℕ)
      → after m segs budget c es n ≡ Some d → after m segs budget c (es ++ fs) (n + k) ≡ after m segs budget d fs k

  -- one more local instruction leads on by the same entries
  abbrev pub LocalLeadsOn : Type 0
  LocalLeadsOn = (segs : List ℕ) (budget : ℕ) (c d f : Course S) (es : List Entry)
      → IsLed m segs budget c es d → carry_local m segs budget d ≡ Some f → IsLed m segs budget c es f

  -- and an entry by one more
  abbrev pub EntryLeadsOn : Type 0
  EntryLeadsOn = (segs : List ℕ) (budget : ℕ) (c d f : Course S) (es : List Entry) (e : Entry)
      → IsLed m segs budget c es d → carry_entry m segs budget d e ≡ Some f → IsLed m segs budget c (es ++ e ∷ []) f

  -- a board that has ended is led to itself alone, by no entry and no instruction
  pub record UsesNothing (c d : Course S) (es : List Entry) (n : ℕ) : Type 0 where
    pub course : d ≡ c
    pub entries : es ≡ []
    pub completed : n ≡ 0

  abbrev pub EndedUsesNothing : Type 0
  EndedUsesNothing = (segs : List ℕ) (budget : ℕ) (c d : Course S) (es : List Entry) (n : ℕ) (why : Stop)
      → c.ending ≡ Some why → after m segs budget c es n ≡ Some d → UsesNothing c d es n

  -- a board that has come so far from its beginning
  pub record IsOnItsWay (budget : ℕ) (d : Course S) (n : ℕ) : Type 0 where
    pub counted : d.retired ≡ n
    pub wants : d.ending ≡ None → m.wants d.cpu ≢ Ended
    pub left : HasBudgetLeft budget d
    pub halted : d.ending ≡ Some Halted → m.wants d.cpu ≡ Ended
    pub faulted : (kind : FaultKind) (at : ℕ) → d.ending ≡ Some (Faulty kind at) → m.wants d.cpu ≡ Ended

  abbrev pub GoingOn : Type 0
  GoingOn = (segs : List ℕ) (budget : ℕ) (s : S) (d : Course S) (es : List Entry) (n : ℕ) → 0 < budget → m.wants s ≢ Ended
      → after m segs budget (begun s) es n ≡ Some d → IsOnItsWay budget d n
