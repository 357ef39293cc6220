-- The faults that are served drop out of a board's entries, over any processor's meaning.
use Rattle.std.specs.Prelude.{◌≡◌, ◌≢◌, ◌⊎◌, ℕ, List, [], ◌∷◌, ◌++◌, Some}
use Rattle.spur_flat.specs.declared.access.AccessKind.{AccessKind}
use Rattle.spur_flat.specs.declared.access.FaultKind.{FaultKind}
use Rattle.spur_flat.specs.declared.entry.Entry.{Entry}
use Rattle.spur_flat.specs.declared.entry.Entry.TheVariants.{Fault}
use Rattle.spur_cpu.specs.Meaning.{Meaning}
use Rattle.spur_cpu.specs.After.{Faulty, Course, after, carry_entry}
use Rattle.spur_plain.specs.PlainHistory.{done_entries, plain_entries}

-- no fault has ended the board
abbrev pub IsUnfaulted : {S : Type 0} → Course S → Type 0
IsUnfaulted c = (kind : FaultKind) (at : ℕ) → c.ending ≢ Some (Faulty kind at)

module _ {S : Type 0} (m : Meaning S) where
  -- a board comes as far by the entries that the plain machine knows of as by all
  abbrev pub ServedDropOut : Type 0
  ServedDropOut = (segs : List ℕ) (budget : ℕ) (c d : Course S) (es : List Entry) (n : ℕ)
      → after m segs budget c es n ≡ Some d → after m segs budget c (plain_entries es) n ≡ Some d

  -- these are its accesses that are done, and no fault has ended it
  pub record ByAccesses (segs : List ℕ) (budget : ℕ) (c d : Course S) (es : List Entry) (n : ℕ) : Type 0 where
    pub unfaulted : IsUnfaulted d
    pub entries : plain_entries es ≡ done_entries es
    pub comes : after m segs budget c (done_entries es) n ≡ Some d

  -- or they are its accesses that are done and one fault, the last of its entries: by the accesses it comes to where it
  -- wants one more, and the fault answers that one and ends it
  pub record ByOneFault (segs : List ℕ) (budget : ℕ) (c d : Course S) (es : List Entry) (n : ℕ) : Type 0 where
    pub before : Course S
    pub board : ℕ
    pub kind : FaultKind
    pub access : AccessKind
    pub at : ℕ
    pub entries : plain_entries es ≡ done_entries es ++ Fault board kind access at ∷ []
    pub comes : after m segs budget c (done_entries es) n ≡ Some before
    pub ends : carry_entry m segs budget before (Fault board kind access at) ≡ Some d
    pub ending : d.ending ≡ Some (Faulty kind at)

  abbrev pub AccessesAndOneFault : Type 0
  AccessesAndOneFault = (segs : List ℕ) (budget : ℕ) (c d : Course S) (es : List Entry) (n : ℕ)
      → IsUnfaulted c → after m segs budget c es n ≡ Some d
      → ByAccesses segs budget c d es n ⊎ ByOneFault segs budget c d es n
