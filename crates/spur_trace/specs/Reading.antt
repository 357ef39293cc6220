-- How lines are read from the front of a text, each field with the byte behind it: what is read and the bytes that are
-- left, or nothing.
use Rattle.std.specs.Prelude.{◌≡◌, ℕ, zero, suc, ◌+◌, ◌-◌, ◌*◌, ◌%◌, ◌^◌, Bool, ◌&&◌, ◌==◌, nat_lt, nat_le, if◌then◌else◌, List, [], ◌∷◌, ◌++◌, Option, Some, None, codes}
use Rattle.std.specs.Char.{is_ascii_digit}
use Rattle.std.specs.Int.{is_power_of_two}
use Rattle.spur_snoop.specs.declared.Need.{Need}
use Rattle.spur_snoop.specs.declared.Need.TheVariants.{Read, Write}
use Rattle.spur_flat.specs.declared.access.AccessKind.{AccessKind}
use Rattle.spur_flat.specs.declared.access.AccessKind.TheVariants as access
use Rattle.spur_flat.specs.declared.access.FaultKind.{FaultKind}
use Rattle.spur_flat.specs.declared.access.FaultKind.TheVariants.{Align, Unmapped, Missing, Leaving, Protection, Reference, Dirty}
use Rattle.spur_flat.specs.declared.entry.Layer.{Layer}
use Rattle.spur_flat.specs.declared.entry.Layer.TheVariants.{RootBlock, PteBlock, UserBlock}
use Rattle.spur_flat.specs.declared.entry.Entry.{Entry}
use Rattle.spur_flat.specs.declared.entry.Entry.TheVariants as entry
use Rattle.spur_trace.specs.declared.head.TraceHead.{TraceHead}
use Rattle.spur_trace.specs.declared.words.Verb.{Verb}
use Rattle.spur_trace.specs.declared.words.Verb.TheVariants as verb
use Rattle.spur_text.specs.Words.{access_word, fault_word}
use Rattle.spur_trace.specs.Line.{layer_word, need_word}

infixl 10 ◌>>=◌
abbrev pub ◌>>=◌ : {A B : Type 0} → Option A → (A → Option B) → Option B
None >>= f = None
(Some x) >>= f = f x

-- what a reader gave, and the bytes that it left, are what reading gives; where it gave nothing, reading gives nothing
abbrev pub Reads : {A : Type 0} → Option (A × List ℕ) → Option A → List ℕ → Type 0
Reads read None rest = read ≡ None
Reads read (Some x) rest = read ≡ Some (x, rest)

-- the bytes behind these
abbrev pub behind : List ℕ → List ℕ → Option (List ℕ)
behind [] bytes = Some bytes
behind (c ∷ cs) [] = None
behind (c ∷ cs) (b ∷ bytes) = if b == c then behind cs bytes else None

-- what a test for a front said, and the bytes that it left
abbrev pub Skips : List ℕ → List ℕ → Bool → List ℕ → Type 0
Skips front bytes found rest = behind front bytes ≡ (if found then Some rest else None)

-- one byte
abbrev pub mark_at : ℕ → List ℕ → Option (Unit {0} × List ℕ)
mark_at c [] = None
mark_at c (b ∷ bytes) = if b == c then Some (tt, bytes) else None

-- ---- words

-- what was found, or else what the others give
abbrev pub or_word : {A : Type 0} → A → Option (List ℕ) → Option (A × List ℕ) → Option (A × List ℕ)
or_word x None others = others
or_word x (Some rest) others = Some (x, rest)

-- the first of these things whose word, with a space behind it, stands in front
abbrev pub word_at : {A : Type 0} → (A → List ℕ) → List A → List ℕ → Option (A × List ℕ)
word_at word [] bytes = None
word_at word (x ∷ xs) bytes = or_word x (behind (word x ++ 32 ∷ []) bytes) (word_at word xs bytes)

-- the things whose words are tried, in this order
abbrev pub fault_kinds : List FaultKind
fault_kinds = Align ∷ Unmapped ∷ Missing ∷ Leaving ∷ Protection ∷ Reference ∷ Dirty ∷ []

abbrev pub access_kinds : List AccessKind
access_kinds = access.Load ∷ access.Store ∷ access.Tas ∷ []

abbrev pub layers : List Layer
layers = RootBlock ∷ PteBlock ∷ UserBlock ∷ []

abbrev pub needs : List Need
needs = Read ∷ Write ∷ []

-- the first word of an entry's line
abbrev pub verb_word : Verb → List ℕ
verb_word verb.Load = codes "load"
verb_word verb.Store = codes "store"
verb_word verb.Tas = codes "tas"
verb_word verb.Fault = codes "fault"
verb_word verb.Fill = codes "fill"
verb_word verb.Claim = codes "claim"
verb_word verb.WriteBack = codes "writeback"
verb_word verb.Refresh = codes "refresh"
verb_word verb.Flush = codes "flush"
verb_word verb.Leave = codes "leave"
verb_word verb.Out = codes "out"
verb_word verb.In = codes "in"
verb_word verb.SetRef = codes "setref"
verb_word verb.SetDirty = codes "setdirty"
verb_word verb.ClearRef = codes "clearref"

abbrev pub verbs : List Verb
verbs =
    verb.Load ∷ verb.Store ∷ verb.Tas ∷ verb.Fault ∷ verb.Fill ∷ verb.Claim ∷ verb.WriteBack ∷ verb.Refresh ∷ verb.Flush
    ∷ verb.Leave ∷ verb.Out ∷ verb.In ∷ verb.SetRef ∷ verb.SetDirty ∷ verb.ClearRef ∷ []

-- ---- numbers

-- a decimal digit
abbrev pub digit_at : List ℕ → Option (ℕ × List ℕ)
digit_at [] = None
digit_at (c ∷ bytes) = if is_ascii_digit c then Some (c - 48, bytes) else None

-- the number that the digits of n and those in front write, up to nine of them
abbrev pub digits_on : ℕ → List ℕ → ℕ × List ℕ
digits_on n [] = (n, [])
digits_on n (c ∷ bytes) =
    if is_ascii_digit c && nat_lt n 100000000 then digits_on (n * 10 + (c - 48)) bytes else (n, c ∷ bytes)

-- behind the first digit: behind a zero no other digit belongs to the number
abbrev pub number_on : ℕ → List ℕ → ℕ × List ℕ
number_on zero bytes = (zero, bytes)
number_on (suc n) bytes = digits_on (suc n) bytes

-- a number without leading zeros
unfoldable pub number_at : List ℕ → Option (ℕ × List ℕ)
number_at bytes = digit_at bytes >>= λ d. Some (number_on d.0 d.1)

-- a number below this one, with this byte behind it
unfoldable pub below_at : ℕ → ℕ → List ℕ → Option (ℕ × List ℕ)
below_at limit mark bytes = do
  n ← number_at bytes
  m ← mark_at mark n.1
  if nat_lt n.0 limit then Some (n.0, m.1) else None

-- the value of a lower-case hexadecimal digit
abbrev pub hex_value : ℕ → Option ℕ
hex_value c = if is_ascii_digit c then Some (c - 48) else (if nat_le 97 c && nat_le c 102 then Some (c - 87) else None)

abbrev pub hex_digit_at : List ℕ → Option (ℕ × List ℕ)
hex_digit_at [] = None
hex_digit_at (c ∷ bytes) = hex_value c >>= λ d. Some (d, bytes)

-- the number that the digits of n and k more write
abbrev pub hex_on : ℕ → ℕ → List ℕ → Option (ℕ × List ℕ)
hex_on zero n bytes = Some (n, bytes)
hex_on (suc k) n bytes = hex_digit_at bytes >>= λ d. hex_on k (n * 16 + d.0) d.1

-- a number of so many digits
unfoldable pub hex_at : ℕ → List ℕ → Option (ℕ × List ℕ)
hex_at count bytes = hex_on count 0 bytes

-- an address that is a multiple of this number, with this byte behind it
unfoldable pub address_at : ℕ → ℕ → List ℕ → Option (ℕ × List ℕ)
address_at multiple mark bytes = do
  g ← hex_at 10 bytes
  m ← mark_at mark g.1
  if nat_lt g.0 (2 ^ 38) && (g.0 % multiple == 0) then Some (g.0, m.1) else None

-- a word, at the end of its line
unfoldable pub value_at : List ℕ → Option (ℕ × List ℕ)
value_at bytes = do
  v ← hex_at 8 bytes
  m ← mark_at 10 v.1
  Some (v.0, m.1)

-- ---- the fields of a line behind its first word

unfoldable pub access_at : ℕ → List ℕ → Option ((ℕ × ℕ × ℕ) × List ℕ)
access_at boards bytes = do
  b ← below_at boards 32 bytes
  g ← address_at 4 32 b.1
  v ← value_at g.1
  Some ((b.0, g.0, v.0), v.1)

unfoldable pub fault_at : ℕ → List ℕ → Option (Entry × List ℕ)
fault_at boards bytes = do
  b ← below_at boards 32 bytes
  kind ← word_at fault_word fault_kinds b.1
  done ← word_at access_word access_kinds kind.1
  g ← address_at 1 10 done.1
  Some (entry.Fault b.0 kind.0 done.0 g.0, g.1)

unfoldable pub fill_at : ℕ → List ℕ → Option (Entry × List ℕ)
fill_at boards bytes = do
  b ← below_at boards 32 bytes
  layer ← word_at layer_word layers b.1
  need ← word_at need_word needs layer.1
  g ← address_at 32 10 need.1
  Some (entry.Fill b.0 layer.0 need.0 g.0, g.1)

unfoldable pub flush_at : ℕ → List ℕ → Option (Entry × List ℕ)
flush_at boards bytes = do
  b ← below_at boards 32 bytes
  h ← below_at boards 32 b.1
  g ← address_at 32 10 h.1
  Some (entry.BlockFlush b.0 h.0 g.0, g.1)

unfoldable pub in_at : ℕ → List ℕ → Option (Entry × List ℕ)
in_at boards bytes = do
  b ← below_at boards 32 bytes
  g ← address_at 4096 32 b.1
  frame ← below_at 4096 10 g.1
  Some (entry.PageIn b.0 g.0 frame.0, frame.1)

unfoldable pub place_at : ℕ → ℕ → List ℕ → Option ((ℕ × ℕ) × List ℕ)
place_at boards multiple bytes = do
  b ← below_at boards 32 bytes
  g ← address_at multiple 10 b.1
  Some ((b.0, g.0), g.1)

-- an entry of an access, made of its three fields
abbrev pub of_access : (ℕ → ℕ → ℕ → Entry) → Option ((ℕ × ℕ × ℕ) × List ℕ) → Option (Entry × List ℕ)
of_access make fields = fields >>= λ f. Some (make f.0.0 f.0.1 f.0.2, f.1)

-- an entry of a block or a page, made of its two fields
abbrev pub of_place : (ℕ → ℕ → Entry) → Option ((ℕ × ℕ) × List ℕ) → Option (Entry × List ℕ)
of_place make fields = fields >>= λ f. Some (make f.0.0 f.0.1, f.1)

-- an entry, behind the first word of its line
abbrev pub fields_at : ℕ → Verb → List ℕ → Option (Entry × List ℕ)
fields_at boards verb.Load bytes = of_access (λ b g v. entry.Load b g v) (access_at boards bytes)
fields_at boards verb.Store bytes = of_access (λ b g v. entry.Store b g v) (access_at boards bytes)
fields_at boards verb.Tas bytes = of_access (λ b g v. entry.Tas b g v) (access_at boards bytes)
fields_at boards verb.Fault bytes = fault_at boards bytes
fields_at boards verb.Fill bytes = fill_at boards bytes
fields_at boards verb.Claim bytes = of_place (λ b g. entry.Claim b g) (place_at boards 32 bytes)
fields_at boards verb.WriteBack bytes = of_place (λ b g. entry.WriteBack b g) (place_at boards 32 bytes)
fields_at boards verb.Refresh bytes = of_place (λ b g. entry.Refresh b g) (place_at boards 32 bytes)
fields_at boards verb.Flush bytes = flush_at boards bytes
fields_at boards verb.Leave bytes = of_place (λ b g. entry.Leave b g) (place_at boards 4096 bytes)
fields_at boards verb.Out bytes = of_place (λ b g. entry.PageOut b g) (place_at boards 4096 bytes)
fields_at boards verb.In bytes = in_at boards bytes
fields_at boards verb.SetRef bytes = of_place (λ b g. entry.SetRef b g) (place_at boards 4096 bytes)
fields_at boards verb.SetDirty bytes = of_place (λ b g. entry.SetDirty b g) (place_at boards 4096 bytes)
fields_at boards verb.ClearRef bytes = of_place (λ b g. entry.ClearRef b g) (place_at boards 4096 bytes)

-- a well-formed entry of a history of so many boards
unfoldable pub entry_at : ℕ → List ℕ → Option (Entry × List ℕ)
entry_at boards bytes = do
  v ← word_at verb_word verbs bytes
  fields_at boards v.0 v.1

-- ---- the header

-- a number in a range, with this byte behind it
unfoldable pub within_at : ℕ → ℕ → ℕ → List ℕ → Option (ℕ × List ℕ)
within_at least most mark bytes = do
  n ← below_at (most + 1) mark bytes
  if nat_le least n.0 then Some n else None

unfoldable pub header_at : List ℕ → Option (TraceHead × List ℕ)
header_at bytes = do
  begun ← behind (codes "%trace ") bytes
  version ← within_at 1 1 32 begun
  boards ← within_at 1 12 32 version.1
  frames ← within_at 1 3900 32 boards.1
  lines ← within_at 16 4096 10 frames.1
  if is_power_of_two lines.0 then Some (record { boards = boards.0; frames = frames.0; lines = lines.0 }, lines.1) else None
