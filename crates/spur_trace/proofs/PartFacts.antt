-- What a well-formed entry's line is made of, number by number.
use Rattle.std.proofs.Common.{◌≡◌, ℕ, suc, ◌%◌, ◌^◌, ◌<◌, ◌≤◌, List, ◌∷◌, get_or, arith}
use Rattle.std.specs.List.{All}
use Rattle.spur_flat.specs.declared.entry.Entry.{Entry}
use Rattle.spur_flat.specs.declared.entry.Entry.TheVariants.{Load, Store, Tas, Fault, Fill, Claim, WriteBack, Refresh, BlockFlush, Leave, PageOut, PageIn, SetRef, SetDirty, ClearRef}
use Rattle.spur_flat.specs.Blocks.{IsOfBoards}
use Rattle.spur_flat.specs.WellFormed.{HasWord, IsWellFormed}
use Rattle.spur_trace.specs.Formed.{IsTraced}

-- a global address that is a multiple of this number
abbrev pub IsAt : ℕ → ℕ → Type 0
IsAt multiple g = (g < 2 ^ 38) × (g % multiple ≡ 0)

-- the ranges of the numbers of an entry's line
abbrev pub HasParts : ℕ → Entry → Type 0
HasParts boards (Load b g v) = (b < boards) × IsAt 4 g × (v < 2 ^ 32)
HasParts boards (Store b g v) = (b < boards) × IsAt 4 g × (v < 2 ^ 32)
HasParts boards (Tas b g v) = (b < boards) × IsAt 4 g × (v < 2 ^ 32)
HasParts boards (Fault b kind done g) = (b < boards) × IsAt 1 g
HasParts boards (Fill b layer need g) = (b < boards) × IsAt 32 g
HasParts boards (Claim b g) = (b < boards) × IsAt 32 g
HasParts boards (WriteBack b g) = (b < boards) × IsAt 32 g
HasParts boards (Refresh b g) = (b < boards) × IsAt 32 g
HasParts boards (BlockFlush b h g) = (b < boards) × (h < boards) × IsAt 32 g
HasParts boards (Leave b g) = (b < boards) × IsAt 4096 g
HasParts boards (PageOut b g) = (b < boards) × IsAt 4096 g
HasParts boards (PageIn b g frame) = (b < boards) × IsAt 4096 g × (frame < 4096)
HasParts boards (SetRef b g) = (b < boards) × IsAt 4096 g
HasParts boards (SetDirty b g) = (b < boards) × IsAt 4096 g
HasParts boards (ClearRef b g) = (b < boards) × IsAt 4096 g

pub parts_of : (boards : ℕ) (e : Entry) → IsTraced boards e → HasParts boards e
parts_of boards (Load b g v) t = (t.formed.formed.there, (t.formed.formed.small, t.formed.word), t.word)
parts_of boards (Store b g v) t = (t.formed.formed.there, (t.formed.formed.small, t.formed.word), t.word)
parts_of boards (Tas b g v) t = (t.formed.formed.there, (t.formed.formed.small, t.formed.word), t.word)
parts_of boards (Fault b kind done g) t = (t.formed.formed.there, (t.formed.formed.small, omega arith))
parts_of boards (Fill b layer need g) t = (t.formed.formed.there, (t.formed.formed.small, t.formed.formed.starts))
parts_of boards (Claim b g) t = (t.formed.formed.there, (t.formed.formed.small, t.formed.formed.starts))
parts_of boards (WriteBack b g) t = (t.formed.formed.there, (t.formed.formed.small, t.formed.formed.starts))
parts_of boards (Refresh b g) t = (t.formed.formed.there, (t.formed.formed.small, t.formed.formed.starts))
parts_of boards (BlockFlush b h g) t = (t.formed.formed.there.0, t.formed.formed.there.1, (t.formed.formed.small, t.formed.formed.starts))
parts_of boards (Leave b g) t = (t.formed.formed.there, (t.formed.formed.small, t.formed.formed.starts))
parts_of boards (PageOut b g) t = (t.formed.formed.there, (t.formed.formed.small, t.formed.formed.starts))
parts_of boards (PageIn b g frame) t = (t.formed.formed.there, (t.formed.formed.small, t.formed.formed.starts), t.formed.frame)
parts_of boards (SetRef b g) t = (t.formed.formed.there, (t.formed.formed.small, t.formed.formed.starts))
parts_of boards (SetDirty b g) t = (t.formed.formed.there, (t.formed.formed.small, t.formed.formed.starts))
parts_of boards (ClearRef b g) t = (t.formed.formed.there, (t.formed.formed.small, t.formed.formed.starts))

pub traced_of : (boards : ℕ) (e : Entry) → HasParts boards e → IsTraced boards e
traced_of boards (Load b g v) p = record { formed = record { formed = record { there = p.0; small = p.1.0; starts = tt }; word = p.1.1; frame = tt }; word = p.2 }
traced_of boards (Store b g v) p = record { formed = record { formed = record { there = p.0; small = p.1.0; starts = tt }; word = p.1.1; frame = tt }; word = p.2 }
traced_of boards (Tas b g v) p = record { formed = record { formed = record { there = p.0; small = p.1.0; starts = tt }; word = p.1.1; frame = tt }; word = p.2 }
traced_of boards (Fault b kind done g) p = record { formed = record { formed = record { there = p.0; small = p.1.0; starts = tt }; word = tt; frame = tt }; word = tt }
traced_of boards (Fill b layer need g) p = record { formed = record { formed = record { there = p.0; small = p.1.0; starts = p.1.1 }; word = tt; frame = tt }; word = tt }
traced_of boards (Claim b g) p = record { formed = record { formed = record { there = p.0; small = p.1.0; starts = p.1.1 }; word = tt; frame = tt }; word = tt }
traced_of boards (WriteBack b g) p = record { formed = record { formed = record { there = p.0; small = p.1.0; starts = p.1.1 }; word = tt; frame = tt }; word = tt }
traced_of boards (Refresh b g) p = record { formed = record { formed = record { there = p.0; small = p.1.0; starts = p.1.1 }; word = tt; frame = tt }; word = tt }
traced_of boards (BlockFlush b h g) p = record { formed = record { formed = record { there = (p.0, p.1); small = p.2.0; starts = p.2.1 }; word = tt; frame = tt }; word = tt }
traced_of boards (Leave b g) p = record { formed = record { formed = record { there = p.0; small = p.1.0; starts = p.1.1 }; word = tt; frame = tt }; word = tt }
traced_of boards (PageOut b g) p = record { formed = record { formed = record { there = p.0; small = p.1.0; starts = p.1.1 }; word = tt; frame = tt }; word = tt }
traced_of boards (PageIn b g frame) p = record { formed = record { formed = record { there = p.0; small = p.1.0; starts = p.1.1 }; word = tt; frame = p.2 }; word = tt }
traced_of boards (SetRef b g) p = record { formed = record { formed = record { there = p.0; small = p.1.0; starts = p.1.1 }; word = tt; frame = tt }; word = tt }
traced_of boards (SetDirty b g) p = record { formed = record { formed = record { there = p.0; small = p.1.0; starts = p.1.1 }; word = tt; frame = tt }; word = tt }
traced_of boards (ClearRef b g) p = record { formed = record { formed = record { there = p.0; small = p.1.0; starts = p.1.1 }; word = tt; frame = tt }; word = tt }

-- ---- more boards

there_more : (boards limit : ℕ) (e : Entry) → boards ≤ limit → IsOfBoards boards e → IsOfBoards limit e
there_more boards limit (Load b g v) few t = omega arith
there_more boards limit (Store b g v) few t = omega arith
there_more boards limit (Tas b g v) few t = omega arith
there_more boards limit (Fault b kind done g) few t = omega arith
there_more boards limit (Fill b layer need g) few t = omega arith
there_more boards limit (Claim b g) few t = omega arith
there_more boards limit (WriteBack b g) few t = omega arith
there_more boards limit (Refresh b g) few t = omega arith
there_more boards limit (BlockFlush b h g) few t = let board = t.0 in let holder = t.1 in (omega arith, omega arith)
there_more boards limit (Leave b g) few t = omega arith
there_more boards limit (PageOut b g) few t = omega arith
there_more boards limit (PageIn b g frame) few t = omega arith
there_more boards limit (SetRef b g) few t = omega arith
there_more boards limit (SetDirty b g) few t = omega arith
there_more boards limit (ClearRef b g) few t = omega arith

formed_more : (boards limit : ℕ) (e : Entry) → boards ≤ limit → IsWellFormed boards e → IsWellFormed limit e
formed_more boards limit e few f = record {
  formed = record { there = there_more boards limit e few f.formed.there; small = f.formed.small; starts = f.formed.starts };
  word = f.word;
  frame = f.frame;
}

pub traced_more : (boards limit : ℕ) (e : Entry) → boards ≤ limit → IsTraced boards e → IsTraced limit e
traced_more boards limit e few t = record { formed = formed_more boards limit e few t.formed; word = t.word }

pub all_12 : (boards : ℕ) (es : List Entry) → boards ≤ 12 → All (IsWellFormed boards) es → All (IsWellFormed 12) es
all_12 boards es few all = λ k d lt. formed_more boards 12 (get_or es k d) few (all k d lt)

-- entries that are well formed and have words are those that lines stand for
pub all_traced : (boards : ℕ) (es : List Entry) → All (IsWellFormed boards) es → All HasWord es → All (IsTraced boards) es
all_traced boards es formed words = λ k d lt. record { formed = formed k d lt; word = words k d lt }

-- ---- the first of a list, and the others

pub first_of : (P : Entry → Type 0) (e : Entry) (es : List Entry) → All P (e ∷ es) → P e
first_of P e es all = all 0 e (omega arith)

pub others_of : (P : Entry → Type 0) (e : Entry) (es : List Entry) → All P (e ∷ es) → All P es
others_of P e es all = λ k d lt. all (suc k) d (omega arith)
