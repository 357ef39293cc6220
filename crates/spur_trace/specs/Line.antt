-- The text of a trace: the line of its header, and one for each entry.
use Rattle.std.specs.Prelude.{ℕ, List, [], ◌∷◌, ◌++◌, codes, map}
use Rattle.std.specs.List.{flat_map}
use Rattle.std.specs.Fmt.{decimal}
use Rattle.spur_snoop.specs.declared.Need.{Need}
use Rattle.spur_snoop.specs.declared.Need.TheVariants.{Read, Write}
use Rattle.spur_flat.specs.declared.entry.Layer.{Layer}
use Rattle.spur_flat.specs.declared.entry.Layer.TheVariants.{RootBlock, PteBlock, UserBlock}
use Rattle.spur_flat.specs.declared.entry.Entry.{Entry}
use Rattle.spur_flat.specs.declared.entry.Entry.TheVariants.{Load, Store, Tas, Fault, Fill, Claim, WriteBack, Refresh, BlockFlush, Leave, PageOut, PageIn, SetRef, SetDirty, ClearRef}
use Rattle.spur_text.specs.Digits.{address_digits, word_digits}
use Rattle.spur_text.specs.Words.{access_word, fault_word}
use Rattle.spur_text.specs.Line.{line_of}
use Rattle.spur_trace.specs.declared.head.TraceHead.{TraceHead}

-- the word for what a block is of
abbrev pub layer_word : Layer → List ℕ
layer_word RootBlock = codes "root"
layer_word PteBlock = codes "pte"
layer_word UserBlock = codes "data"

-- the word for what a block is brought for
abbrev pub need_word : Need → List ℕ
need_word Read = codes "read"
need_word Write = codes "write"

-- the words of an entry's line
abbrev pub entry_words : Entry → List (List ℕ)
entry_words (Load board at value) = codes "load" ∷ decimal board ∷ address_digits at ∷ word_digits value ∷ []
entry_words (Store board at value) = codes "store" ∷ decimal board ∷ address_digits at ∷ word_digits value ∷ []
entry_words (Tas board at old) = codes "tas" ∷ decimal board ∷ address_digits at ∷ word_digits old ∷ []
entry_words (Fault board kind access at) =
    codes "fault" ∷ decimal board ∷ fault_word kind ∷ access_word access ∷ address_digits at ∷ []
entry_words (Fill board layer need at) =
    codes "fill" ∷ decimal board ∷ layer_word layer ∷ need_word need ∷ address_digits at ∷ []
entry_words (Claim board at) = codes "claim" ∷ decimal board ∷ address_digits at ∷ []
entry_words (WriteBack board at) = codes "writeback" ∷ decimal board ∷ address_digits at ∷ []
entry_words (Refresh board at) = codes "refresh" ∷ decimal board ∷ address_digits at ∷ []
entry_words (BlockFlush board holder at) = codes "flush" ∷ decimal board ∷ decimal holder ∷ address_digits at ∷ []
entry_words (Leave board at) = codes "leave" ∷ decimal board ∷ address_digits at ∷ []
entry_words (PageOut board at) = codes "out" ∷ decimal board ∷ address_digits at ∷ []
entry_words (PageIn board at frame) = codes "in" ∷ decimal board ∷ address_digits at ∷ decimal frame ∷ []
entry_words (SetRef board at) = codes "setref" ∷ decimal board ∷ address_digits at ∷ []
entry_words (SetDirty board at) = codes "setdirty" ∷ decimal board ∷ address_digits at ∷ []
entry_words (ClearRef board at) = codes "clearref" ∷ decimal board ∷ address_digits at ∷ []

-- the line of an entry
unfoldable pub entry_line : Entry → List ℕ
entry_line e = line_of (entry_words e)

-- a number of a header's line, and its range
pub record HeadField : Type 0 where
  pub least : ℕ
  pub most : ℕ
  pub number : ℕ

abbrev pub field : ℕ → ℕ → ℕ → HeadField
field least most number = record { least = least; most = most; number = number }

-- the version of the format, and how many boards, data frames and lines of a cache there are
abbrev pub head_fields : TraceHead → List HeadField
head_fields head = field 1 1 1 ∷ field 1 12 head.boards ∷ field 1 3900 head.frames ∷ field 16 4096 head.lines ∷ []

-- the line of a header
unfoldable pub header_line : TraceHead → List ℕ
header_line head = line_of (codes "%trace" ∷ map (λ f. decimal f.number) (head_fields head))

-- the text of a trace
abbrev pub trace_text : TraceHead → List Entry → List ℕ
trace_text head entries = header_line head ++ flat_map entry_line entries
