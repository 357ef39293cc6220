-- An entry's line is read as that entry, and what is read is the line of an entry.
use Rattle.std.proofs.Common.{◌≡◌, ◌∙◌, sym, ℕ, ◌^◌, ◌<◌, ◌≤◌, List, [], ◌∷◌, ◌++◌, Some, refl, ap, arith, codes, subst}
use Rattle.std.specs.Fmt.{decimal}
use Rattle.std.proofs.lemmas.Option.{some_pair_parts}
use Rattle.spur_flat.specs.declared.entry.Entry.{Entry}
use Rattle.spur_flat.specs.declared.entry.Entry.TheVariants.{Load, Store, Tas, Fault, Fill, Claim, WriteBack, Refresh, BlockFlush, Leave, PageOut, PageIn, SetRef, SetDirty, ClearRef}
use Rattle.spur_flat.specs.declared.access.AccessKind.{AccessKind}
use Rattle.spur_flat.specs.declared.access.FaultKind.{FaultKind}
use Rattle.spur_flat.specs.declared.entry.Layer.{Layer}
use Rattle.spur_snoop.specs.declared.Need.{Need}
use Rattle.spur_flat.specs.declared.access.AccessKind.TheVariants as access
use Rattle.spur_flat.specs.declared.access.FaultKind.TheVariants as fault
use Rattle.spur_flat.specs.declared.entry.Layer.TheVariants as layer
use Rattle.spur_snoop.specs.declared.Need.TheVariants as need
use Rattle.spur_trace.specs.declared.words.Verb.{Verb}
use Rattle.spur_trace.specs.declared.words.Verb.TheVariants as verb
use Rattle.spur_text.specs.Digits.{address_digits, word_digits}
use Rattle.spur_trace.specs.Formed.{IsTraced}
use Rattle.spur_trace.proofs.PartFacts.{IsAt, HasParts, parts_of, traced_of}
use Rattle.spur_text.proofs.LineFacts.{line_spread, spread}
use Rattle.spur_text.specs.Words.{access_word, fault_word}
use Rattle.spur_trace.specs.Line.{entry_words, entry_line, layer_word, need_word}
use Rattle.spur_trace.specs.Reading.{access_at, access_kinds, address_at, below_at, entry_at, fault_at, fault_kinds, fields_at, fill_at, flush_at, in_at, layers, needs, of_access, of_place, place_at, value_at, verb_word, verbs, word_at}
use Rattle.spur_trace.proofs.FieldFacts.{address_again, address_is, below_again, below_is, bind_then, value_again, value_is, word_is}

-- ---- words are read

fault_again : (kind : FaultKind) (rest : List ℕ) → word_at fault_word fault_kinds (fault_word kind ++ 32 ∷ rest) ≡ Some (kind, rest)
fault_again fault.Align rest = refl
fault_again fault.Unmapped rest = refl
fault_again fault.Missing rest = refl
fault_again fault.Leaving rest = refl
fault_again fault.Protection rest = refl
fault_again fault.Reference rest = refl
fault_again fault.Dirty rest = refl

kind_again : (kind : AccessKind) (rest : List ℕ) → word_at access_word access_kinds (access_word kind ++ 32 ∷ rest) ≡ Some (kind, rest)
kind_again access.Load rest = refl
kind_again access.Store rest = refl
kind_again access.Tas rest = refl

layer_again : (l : Layer) (rest : List ℕ) → word_at layer_word layers (layer_word l ++ 32 ∷ rest) ≡ Some (l, rest)
layer_again layer.RootBlock rest = refl
layer_again layer.PteBlock rest = refl
layer_again layer.UserBlock rest = refl

need_again : (n : Need) (rest : List ℕ) → word_at need_word needs (need_word n ++ 32 ∷ rest) ≡ Some (n, rest)
need_again need.Read rest = refl
need_again need.Write rest = refl

-- ---- fields are read

access_again : (boards b g v : ℕ) (rest : List ℕ) → boards ≤ 10000 → b < boards → IsAt 4 g → v < 2 ^ 32
    → access_at boards (spread (decimal b ∷ address_digits g ∷ word_digits v ∷ []) rest) ≡ Some ((b, g, v), rest)
unfolding access_at
access_again boards b g v rest few board at value =
    rw (
      below_again boards 32 b (address_digits g ++ 32 ∷ (word_digits v ++ 10 ∷ rest)) board few refl,
      address_again 4 32 g (word_digits v ++ 10 ∷ rest) at,
      value_again v rest value,
    ) refl

place_again : (boards multiple b g : ℕ) (rest : List ℕ) → boards ≤ 10000 → b < boards → IsAt multiple g
    → place_at boards multiple (spread (decimal b ∷ address_digits g ∷ []) rest) ≡ Some ((b, g), rest)
unfolding place_at
place_again boards multiple b g rest few board at =
    rw (below_again boards 32 b (address_digits g ++ 10 ∷ rest) board few refl, address_again multiple 10 g rest at) refl

fault_line_again : (boards b : ℕ) (kind : FaultKind) (done : AccessKind) (g : ℕ) (rest : List ℕ) → boards ≤ 10000 → b < boards → IsAt 1 g
    → fault_at boards (spread (decimal b ∷ fault_word kind ∷ access_word done ∷ address_digits g ∷ []) rest) ≡ Some (Fault b kind done g, rest)
unfolding fault_at
fault_line_again boards b kind done g rest few board at =
    rw (
      below_again boards 32 b (fault_word kind ++ 32 ∷ (access_word done ++ 32 ∷ (address_digits g ++ 10 ∷ rest))) board few refl,
      fault_again kind (access_word done ++ 32 ∷ (address_digits g ++ 10 ∷ rest)),
      kind_again done (address_digits g ++ 10 ∷ rest),
      address_again 1 10 g rest at,
    ) refl

fill_again : (boards b : ℕ) (l : Layer) (n : Need) (g : ℕ) (rest : List ℕ) → boards ≤ 10000 → b < boards → IsAt 32 g
    → fill_at boards (spread (decimal b ∷ layer_word l ∷ need_word n ∷ address_digits g ∷ []) rest) ≡ Some (Fill b l n g, rest)
unfolding fill_at
fill_again boards b l n g rest few board at =
    rw (
      below_again boards 32 b (layer_word l ++ 32 ∷ (need_word n ++ 32 ∷ (address_digits g ++ 10 ∷ rest))) board few refl,
      layer_again l (need_word n ++ 32 ∷ (address_digits g ++ 10 ∷ rest)),
      need_again n (address_digits g ++ 10 ∷ rest),
      address_again 32 10 g rest at,
    ) refl

flush_again : (boards b h g : ℕ) (rest : List ℕ) → boards ≤ 10000 → b < boards → h < boards → IsAt 32 g
    → flush_at boards (spread (decimal b ∷ decimal h ∷ address_digits g ∷ []) rest) ≡ Some (BlockFlush b h g, rest)
unfolding flush_at
flush_again boards b h g rest few board holder at =
    rw (
      below_again boards 32 b (decimal h ++ 32 ∷ (address_digits g ++ 10 ∷ rest)) board few refl,
      below_again boards 32 h (address_digits g ++ 10 ∷ rest) holder few refl,
      address_again 32 10 g rest at,
    ) refl

in_again : (boards b g f : ℕ) (rest : List ℕ) → boards ≤ 10000 → b < boards → IsAt 4096 g → f < 4096
    → in_at boards (spread (decimal b ∷ address_digits g ∷ decimal f ∷ []) rest) ≡ Some (PageIn b g f, rest)
unfolding in_at
in_again boards b g f rest few board at frame =
    rw (
      below_again boards 32 b (address_digits g ++ 32 ∷ (decimal f ++ 10 ∷ rest)) board few refl,
      address_again 4096 32 g (decimal f ++ 10 ∷ rest) at,
      below_again 4096 10 f rest frame (omega arith) refl,
    ) refl

-- ---- a line is read

words_again : (boards : ℕ) (e : Entry) (rest : List ℕ) → boards ≤ 10000 → HasParts boards e → entry_at boards (spread (entry_words e) rest) ≡ Some (e, rest)
unfolding entry_at
words_again boards (Load b g v) rest few f = rw (access_again boards b g v rest few f.0 f.1 f.2) refl
words_again boards (Store b g v) rest few f = rw (access_again boards b g v rest few f.0 f.1 f.2) refl
words_again boards (Tas b g v) rest few f = rw (access_again boards b g v rest few f.0 f.1 f.2) refl
words_again boards (Fault b kind done g) rest few f = fault_line_again boards b kind done g rest few f.0 f.1
words_again boards (Fill b l n g) rest few f = fill_again boards b l n g rest few f.0 f.1
words_again boards (Claim b g) rest few f = rw (place_again boards 32 b g rest few f.0 f.1) refl
words_again boards (WriteBack b g) rest few f = rw (place_again boards 32 b g rest few f.0 f.1) refl
words_again boards (Refresh b g) rest few f = rw (place_again boards 32 b g rest few f.0 f.1) refl
words_again boards (BlockFlush b h g) rest few f = flush_again boards b h g rest few f.0 f.1 f.2
words_again boards (Leave b g) rest few f = rw (place_again boards 4096 b g rest few f.0 f.1) refl
words_again boards (PageOut b g) rest few f = rw (place_again boards 4096 b g rest few f.0 f.1) refl
words_again boards (PageIn b g frame) rest few f = in_again boards b g frame rest few f.0 f.1 f.2
words_again boards (SetRef b g) rest few f = rw (place_again boards 4096 b g rest few f.0 f.1) refl
words_again boards (SetDirty b g) rest few f = rw (place_again boards 4096 b g rest few f.0 f.1) refl
words_again boards (ClearRef b g) rest few f = rw (place_again boards 4096 b g rest few f.0 f.1) refl

pub entry_again : (boards : ℕ) (e : Entry) (rest : List ℕ) → boards ≤ 10000 → IsTraced boards e → entry_at boards (entry_line e ++ rest) ≡ Some (e, rest)
unfolding entry_line
entry_again boards e rest few t = ap (entry_at boards) (line_spread (entry_words e) rest) ∙ words_again boards e rest few (parts_of boards e t)

-- ---- what is read is the line of an entry

-- what an entry's line is made of
pub record IsRead (boards : ℕ) (bytes : List ℕ) (e : Entry) (rest : List ℕ) : Type 0 where
  pub traced : IsTraced boards e
  pub text_is : bytes ≡ entry_line e ++ rest

pub behind_word : (verb bytes tail mid : List ℕ) → bytes ≡ verb ++ 32 ∷ mid → mid ≡ tail → bytes ≡ verb ++ 32 ∷ tail
behind_word verb bytes tail mid e f = e ∙ ap (λ (x : List ℕ). verb ++ 32 ∷ x) f

-- an access: its fields stand behind the first word
record IsAccess (boards : ℕ) (bytes : List ℕ) (b g v : ℕ) (rest : List ℕ) : Type 0 where
  board : b < boards
  at : IsAt 4 g
  value : v < 2 ^ 32
  text_is : bytes ≡ spread (decimal b ∷ address_digits g ∷ word_digits v ∷ []) rest

access_is : (boards : ℕ) (bytes : List ℕ) (f : ℕ × ℕ × ℕ) (rest : List ℕ) → access_at boards bytes ≡ Some (f, rest) → IsAccess boards bytes f.0 f.1 f.2 rest
unfolding access_at
access_is boards bytes f rest e =
    bind_then _ (below_at boards 32 bytes) (f, rest) e (λ b read1 e1.
    bind_then _ (address_at 4 32 b.1) (f, rest) e1 (λ g read2 e2.
    bind_then _ (value_at g.1) (f, rest) e2 (λ v read3 e3.
    let board = below_is boards 32 bytes b.0 b.1 read1 in
    let at = address_is 4 32 b.1 g.0 g.1 read2 in
    let value = value_is g.1 v.0 v.1 read3 in
    let p = some_pair_parts (b.0, g.0, v.0) f v.1 rest e3 in
    let text : bytes ≡ spread (decimal b.0 ∷ address_digits g.0 ∷ word_digits v.0 ∷ []) v.1 =
    behind_word (decimal b.0) bytes _ b.1 board.text_is (behind_word (address_digits g.0) b.1 _ g.1 at.text_is value.text_is) in
    subst (λ (x : ℕ × ℕ × ℕ). IsAccess boards bytes x.0 x.1 x.2 rest) p.0 (
    subst (λ (x : List ℕ). IsAccess boards bytes b.0 g.0 v.0 x) p.1 (record {
      board = board.holds;
      at = at.holds;
      value = value.holds;
      text_is = text;
    })))))

record IsPlace (boards multiple : ℕ) (bytes : List ℕ) (b g : ℕ) (rest : List ℕ) : Type 0 where
  board : b < boards
  at : IsAt multiple g
  text_is : bytes ≡ spread (decimal b ∷ address_digits g ∷ []) rest

place_is : (boards multiple : ℕ) (bytes : List ℕ) (f : ℕ × ℕ) (rest : List ℕ) → place_at boards multiple bytes ≡ Some (f, rest) → IsPlace boards multiple bytes f.0 f.1 rest
unfolding place_at
place_is boards multiple bytes f rest e =
    bind_then _ (below_at boards 32 bytes) (f, rest) e (λ b read1 e1.
    bind_then _ (address_at multiple 10 b.1) (f, rest) e1 (λ g read2 e2.
    let board = below_is boards 32 bytes b.0 b.1 read1 in
    let at = address_is multiple 10 b.1 g.0 g.1 read2 in
    let p = some_pair_parts (b.0, g.0) f g.1 rest e2 in
    let text : bytes ≡ spread (decimal b.0 ∷ address_digits g.0 ∷ []) g.1 =
    behind_word (decimal b.0) bytes _ b.1 board.text_is at.text_is in
    subst (λ (x : ℕ × ℕ). IsPlace boards multiple bytes x.0 x.1 rest) p.0 (
    subst (λ (x : List ℕ). IsPlace boards multiple bytes b.0 g.0 x) p.1 (record { board = board.holds; at = at.holds; text_is = text }))))

-- an entry's fields stand behind the first word of its line
record HasFields (boards : ℕ) (verb bytes : List ℕ) (e : Entry) (rest : List ℕ) : Type 0 where
  parts : HasParts boards e
  text_is : verb ++ 32 ∷ bytes ≡ spread (entry_words e) rest

fault_is : (boards : ℕ) (bytes : List ℕ) (e : Entry) (rest : List ℕ) → fault_at boards bytes ≡ Some (e, rest) → HasFields boards (codes "fault") bytes e rest
unfolding fault_at
fault_is boards bytes e rest h =
    bind_then _ (below_at boards 32 bytes) (e, rest) h (λ b read1 e1.
    bind_then _ (word_at fault_word fault_kinds b.1) (e, rest) e1 (λ kind read2 e2.
    bind_then _ (word_at access_word access_kinds kind.1) (e, rest) e2 (λ done read3 e3.
    bind_then _ (address_at 1 10 done.1) (e, rest) e3 (λ g read4 e4.
    let board = below_is boards 32 bytes b.0 b.1 read1 in
    let kind_text = word_is fault_word fault_kinds b.1 kind.0 kind.1 read2 in
    let done_text = word_is access_word access_kinds kind.1 done.0 done.1 read3 in
    let at = address_is 1 10 done.1 g.0 g.1 read4 in
    let p = some_pair_parts (Fault b.0 kind.0 done.0 g.0) e g.1 rest e4 in
    let text : bytes ≡ spread (decimal b.0 ∷ fault_word kind.0 ∷ access_word done.0 ∷ address_digits g.0 ∷ []) g.1 =
    behind_word (decimal b.0) bytes _ b.1 board.text_is (
    behind_word (fault_word kind.0) b.1 _ kind.1 kind_text (behind_word (access_word done.0) kind.1 _ done.1 done_text at.text_is)) in
    subst (λ (x : Entry). HasFields boards (codes "fault") bytes x rest) p.0 (
    subst (λ (x : List ℕ). HasFields boards (codes "fault") bytes (Fault b.0 kind.0 done.0 g.0) x) p.1 (record {
      parts = (board.holds, at.holds);
      text_is = ap (λ (x : List ℕ). codes "fault" ++ 32 ∷ x) text;
    }))))))

fill_is : (boards : ℕ) (bytes : List ℕ) (e : Entry) (rest : List ℕ) → fill_at boards bytes ≡ Some (e, rest) → HasFields boards (codes "fill") bytes e rest
unfolding fill_at
fill_is boards bytes e rest h =
    bind_then _ (below_at boards 32 bytes) (e, rest) h (λ b read1 e1.
    bind_then _ (word_at layer_word layers b.1) (e, rest) e1 (λ l read2 e2.
    bind_then _ (word_at need_word needs l.1) (e, rest) e2 (λ n read3 e3.
    bind_then _ (address_at 32 10 n.1) (e, rest) e3 (λ g read4 e4.
    let board = below_is boards 32 bytes b.0 b.1 read1 in
    let layer_text = word_is layer_word layers b.1 l.0 l.1 read2 in
    let need_text = word_is need_word needs l.1 n.0 n.1 read3 in
    let at = address_is 32 10 n.1 g.0 g.1 read4 in
    let p = some_pair_parts (Fill b.0 l.0 n.0 g.0) e g.1 rest e4 in
    let text : bytes ≡ spread (decimal b.0 ∷ layer_word l.0 ∷ need_word n.0 ∷ address_digits g.0 ∷ []) g.1 =
    behind_word (decimal b.0) bytes _ b.1 board.text_is (
    behind_word (layer_word l.0) b.1 _ l.1 layer_text (behind_word (need_word n.0) l.1 _ n.1 need_text at.text_is)) in
    subst (λ (x : Entry). HasFields boards (codes "fill") bytes x rest) p.0 (
    subst (λ (x : List ℕ). HasFields boards (codes "fill") bytes (Fill b.0 l.0 n.0 g.0) x) p.1 (record {
      parts = (board.holds, at.holds);
      text_is = ap (λ (x : List ℕ). codes "fill" ++ 32 ∷ x) text;
    }))))))

flush_is : (boards : ℕ) (bytes : List ℕ) (e : Entry) (rest : List ℕ) → flush_at boards bytes ≡ Some (e, rest) → HasFields boards (codes "flush") bytes e rest
unfolding flush_at
flush_is boards bytes e rest h =
    bind_then _ (below_at boards 32 bytes) (e, rest) h (λ b read1 e1.
    bind_then _ (below_at boards 32 b.1) (e, rest) e1 (λ n read2 e2.
    bind_then _ (address_at 32 10 n.1) (e, rest) e2 (λ g read3 e3.
    let board = below_is boards 32 bytes b.0 b.1 read1 in
    let holder = below_is boards 32 b.1 n.0 n.1 read2 in
    let at = address_is 32 10 n.1 g.0 g.1 read3 in
    let p = some_pair_parts (BlockFlush b.0 n.0 g.0) e g.1 rest e3 in
    let text : bytes ≡ spread (decimal b.0 ∷ decimal n.0 ∷ address_digits g.0 ∷ []) g.1 =
    behind_word (decimal b.0) bytes _ b.1 board.text_is (behind_word (decimal n.0) b.1 _ n.1 holder.text_is at.text_is) in
    subst (λ (x : Entry). HasFields boards (codes "flush") bytes x rest) p.0 (
    subst (λ (x : List ℕ). HasFields boards (codes "flush") bytes (BlockFlush b.0 n.0 g.0) x) p.1 (record {
      parts = (board.holds, holder.holds, at.holds);
      text_is = ap (λ (x : List ℕ). codes "flush" ++ 32 ∷ x) text;
    })))))

in_is : (boards : ℕ) (bytes : List ℕ) (e : Entry) (rest : List ℕ) → in_at boards bytes ≡ Some (e, rest) → HasFields boards (codes "in") bytes e rest
unfolding in_at
in_is boards bytes e rest h =
    bind_then _ (below_at boards 32 bytes) (e, rest) h (λ b read1 e1.
    bind_then _ (address_at 4096 32 b.1) (e, rest) e1 (λ g read2 e2.
    bind_then _ (below_at 4096 10 g.1) (e, rest) e2 (λ n read3 e3.
    let board = below_is boards 32 bytes b.0 b.1 read1 in
    let at = address_is 4096 32 b.1 g.0 g.1 read2 in
    let frame = below_is 4096 10 g.1 n.0 n.1 read3 in
    let p = some_pair_parts (PageIn b.0 g.0 n.0) e n.1 rest e3 in
    let text : bytes ≡ spread (decimal b.0 ∷ address_digits g.0 ∷ decimal n.0 ∷ []) n.1 =
    behind_word (decimal b.0) bytes _ b.1 board.text_is (behind_word (address_digits g.0) b.1 _ g.1 at.text_is frame.text_is) in
    subst (λ (x : Entry). HasFields boards (codes "in") bytes x rest) p.0 (
    subst (λ (x : List ℕ). HasFields boards (codes "in") bytes (PageIn b.0 g.0 n.0) x) p.1 (record {
      parts = (board.holds, at.holds, frame.holds);
      text_is = ap (λ (x : List ℕ). codes "in" ++ 32 ∷ x) text;
    })))))

of_access_is : (boards : ℕ) (verb : List ℕ) (make : ℕ → ℕ → ℕ → Entry) (bytes : List ℕ) (e : Entry) (rest : List ℕ)
    → ((b g v : ℕ) → (b < boards) × IsAt 4 g × (v < 2 ^ 32) → HasParts boards (make b g v))
    → ((b g v : ℕ) → entry_words (make b g v) ≡ verb ∷ decimal b ∷ address_digits g ∷ word_digits v ∷ [])
    → of_access make (access_at boards bytes) ≡ Some (e, rest) → HasFields boards verb bytes e rest
of_access_is boards verb make bytes e rest formed words h =
    bind_then _ (access_at boards bytes) (e, rest) h (λ f read e1.
    let p = some_pair_parts (make f.0.0 f.0.1 f.0.2) e f.1 rest e1 in
    let a = access_is boards bytes f.0 f.1 read in
    subst (λ (x : Entry). HasFields boards verb bytes x rest) p.0 (
    subst (λ (x : List ℕ). HasFields boards verb bytes (make f.0.0 f.0.1 f.0.2) x) p.1 (record {
      parts = formed f.0.0 f.0.1 f.0.2 (a.board, a.at, a.value);
      text_is = ap (λ (x : List ℕ). verb ++ 32 ∷ x) a.text_is ∙ ap (λ (x : List (List ℕ)). spread x f.1) (sym (words f.0.0 f.0.1 f.0.2));
    })))

of_place_is : (boards multiple : ℕ) (verb : List ℕ) (make : ℕ → ℕ → Entry) (bytes : List ℕ) (e : Entry) (rest : List ℕ)
    → ((b g : ℕ) → (b < boards) × IsAt multiple g → HasParts boards (make b g))
    → ((b g : ℕ) → entry_words (make b g) ≡ verb ∷ decimal b ∷ address_digits g ∷ [])
    → of_place make (place_at boards multiple bytes) ≡ Some (e, rest) → HasFields boards verb bytes e rest
of_place_is boards multiple verb make bytes e rest formed words h =
    bind_then _ (place_at boards multiple bytes) (e, rest) h (λ f read e1.
    let p = some_pair_parts (make f.0.0 f.0.1) e f.1 rest e1 in
    let a = place_is boards multiple bytes f.0 f.1 read in
    subst (λ (x : Entry). HasFields boards verb bytes x rest) p.0 (
    subst (λ (x : List ℕ). HasFields boards verb bytes (make f.0.0 f.0.1) x) p.1 (record {
      parts = formed f.0.0 f.0.1 (a.board, a.at);
      text_is = ap (λ (x : List ℕ). verb ++ 32 ∷ x) a.text_is ∙ ap (λ (x : List (List ℕ)). spread x f.1) (sym (words f.0.0 f.0.1));
    })))

fields_is : (boards : ℕ) (v : Verb) (bytes : List ℕ) (e : Entry) (rest : List ℕ) → fields_at boards v bytes ≡ Some (e, rest) → HasFields boards (verb_word v) bytes e rest
fields_is boards verb.Load bytes e rest h = of_access_is boards (codes "load") (λ b g v. Load b g v) bytes e rest (λ b g v f. f) (λ b g v. refl) h
fields_is boards verb.Store bytes e rest h = of_access_is boards (codes "store") (λ b g v. Store b g v) bytes e rest (λ b g v f. f) (λ b g v. refl) h
fields_is boards verb.Tas bytes e rest h = of_access_is boards (codes "tas") (λ b g v. Tas b g v) bytes e rest (λ b g v f. f) (λ b g v. refl) h
fields_is boards verb.Fault bytes e rest h = fault_is boards bytes e rest h
fields_is boards verb.Fill bytes e rest h = fill_is boards bytes e rest h
fields_is boards verb.Claim bytes e rest h = of_place_is boards 32 (codes "claim") (λ b g. Claim b g) bytes e rest (λ b g f. f) (λ b g. refl) h
fields_is boards verb.WriteBack bytes e rest h = of_place_is boards 32 (codes "writeback") (λ b g. WriteBack b g) bytes e rest (λ b g f. f) (λ b g. refl) h
fields_is boards verb.Refresh bytes e rest h = of_place_is boards 32 (codes "refresh") (λ b g. Refresh b g) bytes e rest (λ b g f. f) (λ b g. refl) h
fields_is boards verb.Flush bytes e rest h = flush_is boards bytes e rest h
fields_is boards verb.Leave bytes e rest h = of_place_is boards 4096 (codes "leave") (λ b g. Leave b g) bytes e rest (λ b g f. f) (λ b g. refl) h
fields_is boards verb.Out bytes e rest h = of_place_is boards 4096 (codes "out") (λ b g. PageOut b g) bytes e rest (λ b g f. f) (λ b g. refl) h
fields_is boards verb.In bytes e rest h = in_is boards bytes e rest h
fields_is boards verb.SetRef bytes e rest h = of_place_is boards 4096 (codes "setref") (λ b g. SetRef b g) bytes e rest (λ b g f. f) (λ b g. refl) h
fields_is boards verb.SetDirty bytes e rest h = of_place_is boards 4096 (codes "setdirty") (λ b g. SetDirty b g) bytes e rest (λ b g f. f) (λ b g. refl) h
fields_is boards verb.ClearRef bytes e rest h = of_place_is boards 4096 (codes "clearref") (λ b g. ClearRef b g) bytes e rest (λ b g f. f) (λ b g. refl) h

pub entry_is : (boards : ℕ) (bytes : List ℕ) (e : Entry) (rest : List ℕ) → entry_at boards bytes ≡ Some (e, rest) → IsRead boards bytes e rest
unfolding entry_at entry_line
entry_is boards bytes e rest h =
    bind_then _ (word_at verb_word verbs bytes) (e, rest) h (λ v read e1.
    let front = word_is verb_word verbs bytes v.0 v.1 read in
    let f = fields_is boards v.0 v.1 e rest e1 in
    record { traced = traced_of boards e f.parts; text_is = front ∙ (f.text_is ∙ sym (line_spread (entry_words e) rest)) })
