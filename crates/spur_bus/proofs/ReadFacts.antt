-- A block is read into a cache.
use Rattle.std.proofs.Common.{◌≡◌, ◌≢◌, ◌∙◌, ℕ, zero, suc, ◌+◌, ◌-◌, ◌<◌, ◌≤◌, ◌*◌, ◌/◌, ◌%◌, ◌^◌, inl, Bool, true, false, if◌then◌else◌, ap, sym, refl, subst, get_or, List, [], ◌∷◌, length, map, drop, slice_get, slice_index, Option, Some, None, arith}
use Rattle.std.proofs.lemmas.List.{get_or-take, get_or-drop, ext_get_or, length-take-le, length-drop}
use Rattle.std.proofs.lemmas.Option.{slice_get-get_or}
use Rattle.spur_addr.specs.Address.{block_of, block_start_of}
use Rattle.spur_addr.specs.declared.page_entry.Protection.{Protection}
use Rattle.spur_addr.specs.declared.page_entry.Protection.TheVariants.{Nothing}
use Rattle.spur_cache.specs.declared.line.Line.{Line}
use Rattle.spur_cache.specs.Lines.{IsCache, found, tagged, line_at, index_of}
use Rattle.spur_snoop.specs.declared.BlockState.{BlockState}
use Rattle.spur_snoop.specs.declared.BlockState.TheVariants.{Invalid, UnOwned, OwnedNonExclusive, OwnedExclusive}
use Rattle.spur_snoop.specs.declared.BusKind.{BusKind}
use Rattle.spur_snoop.specs.declared.Need.{Need}
use Rattle.spur_snoop.specs.Protocol.{is_owned, snooped_of, supplies}
use Rattle.spur_phys.specs.Blocks.{block_place, block_at}
use Rattle.spur_flat.specs.declared.flat.Flat.{Flat}
use Rattle.spur_flat.specs.declared.tag.Tag.{Tag}
use Rattle.spur_flat.specs.declared.entry.Layer.{Layer}
use Rattle.spur_flat.specs.TagLines.{fresh_tag, kind_of, filled_state}
use Rattle.spur_bus.specs.declared.place.Place.{Place}
use Rattle.spur_bus.specs.Boards.{line_of, line_in, line_of_block, turned_lines, turned, first_some, supplied_by, supplier, words_or}
use Rattle.spur_bus.specs.Logical.{word_or, logical_word, logical_words, logical_block}
use Rattle.spur_bus.specs.Agrees.{Agrees, IsAt, AgreesWithMemory}
use Rattle.spur_bus.specs.Calls.{MayRead, read_caches, read_line, tag_of, tags_of, Gives}
use Rattle.spur_snoop.specs.declared.BusKind.TheVariants as bus
use Rattle.spur_flat.specs.TagLines as T
use Rattle.spur_snoop.specs.declared.Need.TheVariants as need
use Rattle.spur_flat.specs.declared.entry.Layer.TheVariants as layer
use Rattle.spur_bus.proofs.Turn.{MayMove, MayTurn, Shares, Takes, Turn}
use Rattle.spur_bus.proofs.EachFacts.{length-each}
use Rattle.spur_bus.proofs.LineFacts.{some_same, tagged_is, tagged_there}
use Rattle.spur_bus.proofs.OwnerFacts.{Free, Owned, Owner, logical_owned, owner}
use Rattle.spur_bus.proofs.WordsFacts.{length-logical, logical_index}
use Rattle.spur_bus.proofs.MoveFacts.{new_there}
use Rattle.spur_bus.proofs.TagsFacts.{tags-turned}
use Rattle.spur_bus.proofs.CallFacts.{Promised, exclusive_alive, start_block, turned_all, unowned_alive}
use Rattle.spur_bus.proofs.BackFacts.{at_place, place_at}

-- a cache finds the line of a block that it has
pub found_at : (lines : List (Option Line)) (at s : ℕ) (l : Line) → IsCache lines → line_at lines s ≡ Some l → l.tag ≡ block_of at → found lines at ≡ Some l
found_at lines at s l cache there tag =
    let slot : s ≡ index_of lines (block_of at) = sym (cache.placed s l there) ∙ ap (index_of lines) tag in
    ap (tagged (block_of at)) (ap (line_at lines) (sym slot) ∙ there) ∙ tagged_there (block_of at) l tag

pub found_in : (caches : List (List (Option Line))) (b at s : ℕ) (l : Line) → Agrees caches → b < length caches → line_in caches b s ≡ Some l → l.tag ≡ block_of at → line_of_block caches b at ≡ Some l
found_in caches b at s l agree within there tag =
    let board : slice_get caches b ≡ Some (get_or caches b []) = slice_get-get_or caches b [] within in
    found_at (get_or caches b []) at s l (agree.each b (get_or caches b []) board) (ap (λ (o : Option (List (Option Line))). line_of o s) (sym board) ∙ there) tag

-- so none of its lines is of a block that it does not find
lacks_all : (caches : List (List (Option Line))) (b at s : ℕ) (l : Line) → Agrees caches → b < length caches → line_of_block caches b at ≡ None → line_in caches b s ≡ Some l → l.tag ≢ block_of at
lacks_all caches b at s l agree within lacks there tag =
    let clash : None ≡ Some l = sym lacks ∙ found_in caches b at s l agree within there tag in
    cc

-- the owner of a block supplies its words to a read

pub record Supplies (caches : List (List (Option Line))) (at : ℕ) (w : List ℕ) : Type 0 where
  pub i : ℕ
  pub s : ℕ
  pub line : Line
  pub there : line_in caches i s ≡ Some line
  pub tag : line.tag ≡ block_of at
  pub owned : is_owned line.state ≡ true
  pub words : line.words ≡ w

-- a read is what owners supply the words to
abbrev pub IsRead : BusKind → Type 0
IsRead kind = (state : BlockState) → supplies state kind ≡ is_owned state

pub shared_is_read : IsRead bus.ReadShared
shared_is_read Invalid = refl
shared_is_read UnOwned = refl
shared_is_read OwnedNonExclusive = refl
shared_is_read OwnedExclusive = refl

pub owned_is_read : IsRead bus.ReadOwned
owned_is_read Invalid = refl
owned_is_read UnOwned = refl
owned_is_read OwnedNonExclusive = refl
owned_is_read OwnedExclusive = refl

abbrev pub offer : ℕ → BusKind → List (Option Line) → Option (List ℕ)
offer at kind lines = supplied_by kind (found lines at)

owned_if : (b : Bool) (u w : List ℕ) → (if b then Some u else None) ≡ Some w → (b ≡ true) × (u ≡ w)
owned_if true u w h = (refl, cc)
owned_if false u w h = cc

pub record Offers (lines : List (Option Line)) (at : ℕ) (w : List ℕ) : Type 0 where
  pub line : Line
  pub there : found lines at ≡ Some line
  pub owned : is_owned line.state ≡ true
  pub words : line.words ≡ w

offers : (lines : List (Option Line)) (at : ℕ) (kind : BusKind) (w : List ℕ) (o : Option Line) → IsRead kind → found lines at ≡ o → supplied_by kind o ≡ Some w → Offers lines at w
offers lines at kind w None reads is h = cc
offers lines at kind w (Some l) reads is h = let both = owned_if (supplies l.state kind) l.words w h in record { line = l; there = is; owned = sym (reads l.state) ∙ both.0; words = both.1 }

supplies_cons : (lines : List (Option Line)) (rest : List (List (Option Line))) (at : ℕ) (kind : BusKind) (w : List ℕ) (o : Option (List ℕ)) → IsRead kind → offer at kind lines ≡ o
    → (first_some (map (offer at kind) rest) ≡ Some w → Supplies rest at w) → first_some (o ∷ map (offer at kind) rest) ≡ Some w → Supplies (lines ∷ rest) at w
supplies_cons lines rest at kind w None reads is more h = let r = more h in record { i = suc r.i; s = r.s; line = r.line; there = r.there; tag = r.tag; owned = r.owned; words = r.words }
supplies_cons lines rest at kind w (Some u) reads is more h =
    let f = offers lines at kind w (found lines at) reads refl (is ∙ h) in
    let both = tagged_is (block_of at) (line_at lines (index_of lines (block_of at))) f.line f.there in
    record { i = zero; s = index_of lines (block_of at); line = f.line; there = both.0; tag = both.1; owned = f.owned; words = f.words }

pub supplies_words : (caches : List (List (Option Line))) (at : ℕ) (kind : BusKind) (w : List ℕ) → IsRead kind → supplier caches at kind ≡ Some w → Supplies caches at w
supplies_words [] at kind w reads h = cc
supplies_words (lines ∷ rest) at kind w reads h = supplies_cons lines rest at kind w (offer at kind lines) reads refl (supplies_words rest at kind w reads) h

-- no line of the block is owned where none supplies it
none_cons : (o : Option (List ℕ)) (os : List (Option (List ℕ))) → first_some (o ∷ os) ≡ None → (o ≡ None) × (first_some os ≡ None)
none_cons None os h = (refl, h)
none_cons (Some y) os h = cc

unsupplied_in : (caches : List (List (Option Line))) (at i : ℕ) (kind : BusKind) (lines : List (Option Line)) → supplier caches at kind ≡ None → slice_get caches i ≡ Some lines → offer at kind lines ≡ None
unsupplied_in [] at i kind lines h there = cc
unsupplied_in (c ∷ cs) at zero kind lines h there = ap (offer at kind) (sym (some_same c lines there)) ∙ (none_cons (offer at kind c) (map (offer at kind) cs) h).0
unsupplied_in (c ∷ cs) at (suc i) kind lines h there = unsupplied_in cs at i kind lines (none_cons (offer at kind c) (map (offer at kind) cs) h).1 there

unsupplied_at : (caches : List (List (Option Line))) (at i s : ℕ) (kind : BusKind) (l : Line) (o : Option (List (Option Line))) → Agrees caches → IsRead kind → supplier caches at kind ≡ None
    → slice_get caches i ≡ o → line_of o s ≡ Some l → l.tag ≡ block_of at → is_owned l.state ≡ true → ⊥
unsupplied_at caches at i s kind l None agree reads h is there tag owned = cc
unsupplied_at caches at i s kind l (Some lines) agree reads h is there tag owned =
    let here : found lines at ≡ Some l = found_at lines at s l (agree.each i lines is) there tag in
    let gives : offer at kind lines ≡ Some l.words = ap (supplied_by kind) here ∙ ap (λ (b : Bool). if b then Some l.words else None) (reads l.state ∙ owned) in
    let clash : None ≡ Some l.words = sym (unsupplied_in caches at i kind lines h is) ∙ gives in
    cc

-- words of a block in a memory

pub word_at : (memory : List ℕ) (at i : ℕ) → i < 8 → slice_index (block_at memory at) i ≡ slice_index memory (at + i)
word_at memory at i small = get_or-take 8 (drop at memory) i 0 small ∙ get_or-drop at memory i 0

pub length-block : (memory : List ℕ) (at : ℕ) → at + 8 ≤ length memory → length (block_at memory at) ≡ 8
length-block memory at room =
    let left : length (drop at memory) ≡ length memory - at = length-drop at memory in
    length-take-le 8 (drop at memory) (omega arith)

-- word k of the block of `at` in a frame
pub record InBlock (frame at k : ℕ) : Type 0 where
  pub frame_is : k / 1024 ≡ frame
  pub position : k / 8 % 128 ≡ block_of at % 128

in_place : (frame at k : ℕ) → InBlock frame at k → k ≡ block_place frame at + k % 8
in_place frame at k is = at_place k (read_line at UnOwned (record { frame = frame; prot = Nothing; dirty = false }) []) (record { frame = is.frame_is; position = is.position })

place_in : (frame at i : ℕ) → i < 8 → InBlock frame at (block_place frame at + i)
place_in frame at i small =
    let at_line = place_at (block_place frame at + i) (read_line at UnOwned (record { frame = frame; prot = Nothing; dirty = false }) []) (omega arith) (omega arith) in
    record { frame_is = at_line.frame; position = at_line.position }

room_in : (memory : List ℕ) (frame at : ℕ) → frame * 1024 + 1024 ≤ length memory → block_place frame at + 8 ≤ length memory
room_in memory frame at room = let small : block_of at % 128 < 128 = omega arith in omega arith

-- the words of the logical memory
pub logical_block_word : (caches : List (List (Option Line))) (memory : List ℕ) (frame at k : ℕ) → frame * 1024 + 1024 ≤ length memory → InBlock frame at k
    → slice_index (logical_block caches memory frame at) (k % 8) ≡ logical_word caches memory k
logical_block_word caches memory frame at k room is =
    let place : k ≡ block_place frame at + k % 8 = in_place frame at k is in
    let fits : block_place frame at + 8 ≤ length memory = room_in memory frame at room in
    let small : k % 8 < 8 = omega arith in
    word_at (logical_words caches memory) (block_place frame at) (k % 8) small
    ∙ ap (slice_index (logical_words caches memory)) (sym place)
    ∙ logical_index caches memory k (omega arith)

pub length-logical_block : (caches : List (List (Option Line))) (memory : List ℕ) (frame at : ℕ) → frame * 1024 + 1024 ≤ length memory → length (logical_block caches memory frame at) ≡ 8
length-logical_block caches memory frame at room =
    let count : length (logical_words caches memory) ≡ length memory = length-logical caches memory in
    let fits : block_place frame at + 8 ≤ length memory = room_in memory frame at room in
    length-block (logical_words caches memory) (block_place frame at) (omega arith)

-- the words that are supplied, or else those of the memory, are those of the logical memory

memory_is : (caches : List (List (Option Line))) (memory : List ℕ) (b at frame k : ℕ) (kind : BusKind) → Agrees caches → IsRead kind → MayRead caches memory b at frame → supplier caches at kind ≡ None
    → InBlock frame at k → Owner caches (k / 1024) (k / 8 % 128) → slice_index (block_at memory (block_place frame at)) (k % 8) ≡ logical_word caches memory k
memory_is caches memory b at frame k kind agree reads may is place (Owned i s l there o is_words) =
    let tag : l.tag ≡ block_of at = may.one_place i s l there (o.in_frame ∙ place.frame_is) (o.in_position ∙ place.position) in
    absurd (unsupplied_at caches at i s kind l (slice_get caches i) agree reads is refl there tag o.owned)
memory_is caches memory b at frame k kind agree reads may is place (Free none_is none) =
    let small : k % 8 < 8 = omega arith in
    word_at memory (block_place frame at) (k % 8) small
    ∙ ap (slice_index memory) (sym (in_place frame at k place))
    ∙ sym (ap (λ (w : Option (List ℕ)). word_or w (slice_index memory k) k) none_is)

words_are : (caches : List (List (Option Line))) (memory : List ℕ) (b at frame k : ℕ) (kind : BusKind) (o : Option (List ℕ)) → Agrees caches → IsRead kind → MayRead caches memory b at frame → supplier caches at kind ≡ o
    → InBlock frame at k → slice_index (words_or o (block_at memory (block_place frame at))) (k % 8) ≡ logical_word caches memory k
words_are caches memory b at frame k kind (Some w) agree reads may is place =
    let f = supplies_words caches at kind w reads is in
    ap (λ (ws : List ℕ). slice_index ws (k % 8)) (sym f.words)
    ∙ sym (logical_owned caches memory k f.i f.s f.line agree f.there (record {
      owned = f.owned;
      in_frame = may.one_frame f.i f.s f.line f.there f.tag ∙ sym place.frame_is;
      in_position = ap (λ (n : ℕ). n % 128) f.tag ∙ sym place.position;
    }))
words_are caches memory b at frame k kind None agree reads may is place =
    memory_is caches memory b at frame k kind agree reads may is place (owner caches (k / 1024) (k / 8 % 128))

length-line : (caches : List (List (Option Line))) (i s : ℕ) (l : Line) (o : Option (List (Option Line))) → Agrees caches → slice_get caches i ≡ o → line_of o s ≡ Some l → length l.words ≡ 8
length-line caches i s l None agree is there = cc
length-line caches i s l (Some lines) agree is there = ((agree.each i lines is).held s l there).words

length-words_or : (caches : List (List (Option Line))) (memory : List ℕ) (at frame : ℕ) (kind : BusKind) (o : Option (List ℕ)) → Agrees caches → IsRead kind → frame * 1024 + 1024 ≤ length memory → supplier caches at kind ≡ o
    → length (words_or o (block_at memory (block_place frame at))) ≡ 8
length-words_or caches memory at frame kind None agree reads room is = length-block memory (block_place frame at) (room_in memory frame at room)
length-words_or caches memory at frame kind (Some w) agree reads room is =
    let f = supplies_words caches at kind w reads is in
    ap (λ (ws : List ℕ). length ws) (sym f.words) ∙ length-line caches f.i f.s f.line (slice_get caches f.i) agree refl f.there

pub read_words_are : (caches : List (List (Option Line))) (memory : List ℕ) (b at frame : ℕ) (kind : BusKind) → Agrees caches → IsRead kind → MayRead caches memory b at frame
    → words_or (supplier caches at kind) (block_at memory (block_place frame at)) ≡ logical_block caches memory frame at
read_words_are caches memory b at frame kind agree reads may =
    let words : List ℕ = words_or (supplier caches at kind) (block_at memory (block_place frame at)) in
    let count : length words ≡ 8 = length-words_or caches memory at frame kind (supplier caches at kind) agree reads may.room refl in
    ext_get_or 0 words (logical_block caches memory frame at) (count ∙ sym (length-logical_block caches memory frame at may.room))
    (λ (i : ℕ) (within : i < length words).
    let k : ℕ = block_place frame at + i in
    let small : i < 8 = omega arith in
    let place : InBlock frame at k = place_in frame at i small in
    let rest : k % 8 ≡ i = omega arith in
    ap (slice_index words) (sym rest)
    ∙ words_are caches memory b at frame k kind (supplier caches at kind) agree reads may refl place
    ∙ sym (logical_block_word caches memory frame at k may.room place)
    ∙ ap (slice_index (logical_block caches memory frame at)) rest)

-- a read of a block that the board lacks

pub record ReadAll (caches news : List (List (Option Line))) (memory : List ℕ) (b at : ℕ) (fresh : Line) : Type 0 where
  pub keeps : Promised caches news memory memory
  pub there : line_of_block news b at ≡ Some fresh

not_owned : (st : BlockState) → is_owned st ≡ false → is_owned st ≡ true → ⊥
not_owned st h owned = let clash : false ≡ true = sym h ∙ owned in cc

read_in : (caches : List (List (Option Line))) (memory : List ℕ) (b at : ℕ) (kind : BusKind) (state : BlockState) (place : Place) → Agrees caches → AgreesWithMemory caches memory → b < length caches → block_of at < 2 ^ 33
    → MayRead caches memory b at place.frame → state ≢ Invalid → Turn caches b (block_of at) kind (read_line at state place (logical_block caches memory place.frame at)) → kind ≢ bus.WriteBack
    → ReadAll caches (turned caches b at kind (read_line at state place (logical_block caches memory place.frame at))) memory b at (read_line at state place (logical_block caches memory place.frame at))
read_in caches memory b at kind state place agree serves within small may alive turn no_back =
    let fresh : Line = read_line at state place (logical_block caches memory place.frame at) in
    let news = turned caches b at kind fresh in
    let board : slice_get caches b ≡ Some (get_or caches b []) = slice_get-get_or caches b [] within in
    let turns : MayTurn caches b at kind fresh = record {
      there = within;
      tag = refl;
      sound = record { valid = alive; tag = small; words = length-logical_block caches memory place.frame at may.room };
      frame = may.one_frame;
      place = may.one_place;
      turn = turn;
    } in
    let moves : MayMove caches b at kind fresh memory memory = record {
      within = may.room;
      size = refl;
      words = λ (k : ℕ) (i : IsAt k fresh). logical_block_word caches memory place.frame at k may.room (record { frame_is = i.frame; position = i.position });
      victim = λ (lines : List (Option Line)) (l : Line) (at_b : slice_get caches b ≡ Some lines) (there : line_at lines (index_of lines fresh.tag) ≡ Some l) (owned : is_owned l.state ≡ true).
          let same : lines ≡ get_or caches b [] = some_same lines (get_or caches b []) (sym at_b ∙ board) in
          let stands : line_at (get_or caches b []) (index_of (get_or caches b []) (block_of at)) ≡ Some l = ap (λ (ls : List (Option Line)). line_at ls (index_of ls (block_of at))) (sym same) ∙ there in
          absurd (not_owned l.state (may.victim l stands) owned);
      memory = λ (k : ℕ). inl refl;
      returned = λ (k : ℕ) (back : kind ≡ bus.WriteBack) (i : IsAt k fresh). absurd (no_back back);
    } in
    let all = turned_all caches news b at kind fresh memory memory agree turns serves moves refl in
    let here = new_there caches b at kind fresh agree turns in
    let count : length news ≡ length caches = length-each (turned_lines b at kind fresh) 0 caches in
    record { keeps = all; there = found_in news b at here.0 fresh all.agree (omega arith) here.1 refl }

reads_own : (st : BlockState) → snooped_of st bus.ReadOwned ≡ Invalid
reads_own Invalid = refl
reads_own UnOwned = refl
reads_own OwnedNonExclusive = refl
reads_own OwnedExclusive = refl

shared_not_back : bus.ReadShared ≢ bus.WriteBack
shared_not_back h = cc

owned_not_back : bus.ReadOwned ≢ bus.WriteBack
owned_not_back h = cc

pub shared_all : (caches news : List (List (Option Line))) (memory : List ℕ) (b at : ℕ) (place : Place) → Agrees caches → AgreesWithMemory caches memory → b < length caches → block_of at < 2 ^ 33 → MayRead caches memory b at place.frame
    → news ≡ turned caches b at bus.ReadShared (read_line at UnOwned place (logical_block caches memory place.frame at))
    → ReadAll caches news memory b at (read_line at UnOwned place (logical_block caches memory place.frame at))
shared_all caches news memory b at place agree serves within small may is =
    let fresh : Line = read_line at UnOwned place (logical_block caches memory place.frame at) in
    subst (λ (n : List (List (Option Line))). ReadAll caches n memory b at fresh) (sym is)
    (read_in caches memory b at bus.ReadShared UnOwned place agree serves within small may unowned_alive
    (Shares refl refl (λ (s : ℕ) (l : Line) (there : line_in caches b s ≡ Some l). lacks_all caches b at s l agree within may.lacks there)) shared_not_back)

pub owned_all : (caches news : List (List (Option Line))) (memory : List ℕ) (b at : ℕ) (place : Place) → Agrees caches → AgreesWithMemory caches memory → b < length caches → block_of at < 2 ^ 33 → MayRead caches memory b at place.frame
    → news ≡ turned caches b at bus.ReadOwned (read_line at OwnedExclusive place (logical_block caches memory place.frame at))
    → ReadAll caches news memory b at (read_line at OwnedExclusive place (logical_block caches memory place.frame at))
owned_all caches news memory b at place agree serves within small may is =
    let fresh : Line = read_line at OwnedExclusive place (logical_block caches memory place.frame at) in
    subst (λ (n : List (List (Option Line))). ReadAll caches n memory b at fresh) (sym is)
    (read_in caches memory b at bus.ReadOwned OwnedExclusive place agree serves within small may exclusive_alive (Takes reads_own refl) owned_not_back)

-- the tags

tag_same : (t : Tag) (block : ℕ) (state : BlockState) (place : Place) → t.block ≡ block → t.state ≡ state → t.frame ≡ place.frame → t.prot ≡ place.prot → t.dirty ≡ place.dirty
    → t ≡ record { block = block; state = state; frame = place.frame; prot = place.prot; dirty = place.dirty }
tag_same t block state place hb hs hf hp hd =
    ap (λ (n : ℕ). record { block = n; state = t.state; frame = t.frame; prot = t.prot; dirty = t.dirty }) hb
    ∙ ap (λ (s : BlockState). record { block = block; state = s; frame = t.frame; prot = t.prot; dirty = t.dirty }) hs
    ∙ ap (λ (n : ℕ). record { block = block; state = state; frame = n; prot = t.prot; dirty = t.dirty }) hf
    ∙ ap (λ (p : Protection). record { block = block; state = state; frame = place.frame; prot = p; dirty = t.dirty }) hp
    ∙ ap (λ (d : Bool). record { block = block; state = state; frame = place.frame; prot = place.prot; dirty = d }) hd

fresh_block : (F : Flat) (l : Layer) (n : Need) (at : ℕ) → (fresh_tag F l n at).block ≡ block_of at
fresh_block F layer.UserBlock n at = refl
fresh_block F layer.PteBlock n at = refl
fresh_block F layer.RootBlock n at = refl

fresh_state : (F : Flat) (l : Layer) (n : Need) (at : ℕ) → (fresh_tag F l n at).state ≡ filled_state n
fresh_state F layer.UserBlock n at = refl
fresh_state F layer.PteBlock n at = refl
fresh_state F layer.RootBlock n at = refl

-- a fill that gives a place gives the tag of its line
pub gives_tag : (F : Flat) (l : Layer) (n : Need) (at start : ℕ) (place : Place) (words : List ℕ) → start ≡ block_start_of at → Gives F l n (block_start_of at) place
    → fresh_tag F l n start ≡ tag_of (read_line at (filled_state n) place words)
gives_tag F l n at start place words start_is gives =
    ap (fresh_tag F l n) start_is
    ∙ tag_same (fresh_tag F l n (block_start_of at)) (block_of at) (filled_state n) place
    (fresh_block F l n (block_start_of at) ∙ start_block at) (fresh_state F l n (block_start_of at)) gives.frame gives.prot gives.dirty

pub read_tags : (caches news : List (List (Option Line))) (b at start : ℕ) (kind : BusKind) (fresh : Line) (tag : Tag) → fresh.tag ≡ block_of at → tag ≡ tag_of fresh → start ≡ block_start_of at → news ≡ turned caches b at kind fresh
    → tags_of news ≡ T.bus_on (tags_of caches) b (block_of start) kind (Some tag)
read_tags caches news b at start kind fresh tag is_tag tag_is start_is is =
    ap tags_of is ∙ tags-turned caches b at kind fresh is_tag
    ∙ ap (λ (t : Tag). T.bus_on (tags_of caches) b (block_of at) kind (Some t)) (sym tag_is)
    ∙ ap (λ (n : ℕ). T.bus_on (tags_of caches) b n kind (Some tag)) (sym (start_block at))
    ∙ ap (λ (n : ℕ). T.bus_on (tags_of caches) b (block_of n) kind (Some tag)) (sym start_is)

-- a read, over boards

pub read_all : (n : Need) (caches news : List (List (Option Line))) (memory : List ℕ) (b at : ℕ) (place : Place) → Agrees caches → AgreesWithMemory caches memory → b < length caches → block_of at < 2 ^ 33 → MayRead caches memory b at place.frame
    → news ≡ turned caches b at (kind_of n) (read_line at (filled_state n) place (logical_block caches memory place.frame at))
    → ReadAll caches news memory b at (read_line at (filled_state n) place (logical_block caches memory place.frame at))
read_all need.Read caches news memory b at place = shared_all caches news memory b at place
read_all need.Write caches news memory b at place = owned_all caches news memory b at place

is_read : (n : Need) → IsRead (kind_of n)
is_read need.Read = shared_is_read
is_read need.Write = owned_is_read

-- the line that a read by this need puts in the cache
abbrev pub fresh_line : Need → List (List (Option Line)) → List ℕ → ℕ → Place → Line
fresh_line n caches memory at place = read_line at (filled_state n) place (logical_block caches memory place.frame at)

-- what a read leaves
pub record ReadDone (n : Need) (caches now : List (List (Option Line))) (memory : List ℕ) (b at : ℕ) (place : Place) : Type 0 where
  pub change : now ≡ read_caches caches memory b n at place
  pub all : ReadAll caches now memory b at (fresh_line n caches memory at place)
  pub tags : (F : Flat) (l : Layer) (start : ℕ) → start ≡ block_start_of at → Gives F l n (block_start_of at) place
      → tags_of now ≡ T.bus_on (tags_of caches) b (block_of start) (kind_of n) (Some (fresh_tag F l n start))

pub read_done : (n : Need) (caches now : List (List (Option Line))) (memory : List ℕ) (b at : ℕ) (place : Place) (words : List ℕ) (line : Line)
    → b < length caches → Agrees caches → AgreesWithMemory caches memory → MayRead caches memory b at place.frame
    → words ≡ words_or (supplier caches at (kind_of n)) (block_at memory (block_place place.frame at)) → line ≡ read_line at (filled_state n) place words → line.tag < 2 ^ 33
    → now ≡ turned caches b at (kind_of n) line → ReadDone n caches now memory b at place
read_done n caches now memory b at place words line within agree serves may words_is line_is small is =
    let fresh : Line = fresh_line n caches memory at place in
    let low : block_of at < 2 ^ 33 = subst (λ (l : Line). l.tag < 2 ^ 33) line_is small in
    let logical : words ≡ logical_block caches memory place.frame at = words_is ∙ read_words_are caches memory b at place.frame (kind_of n) agree (is_read n) may in
    let line_fresh : line ≡ fresh = line_is ∙ ap (read_line at (filled_state n) place) logical in
    let news : now ≡ turned caches b at (kind_of n) fresh = is ∙ ap (λ (l : Line). turned caches b at (kind_of n) l) line_fresh in
    record {
      change = news;
      all = read_all n caches now memory b at place agree serves within low may news;
      tags = λ (F : Flat) (l : Layer) (start : ℕ) (start_is : start ≡ block_start_of at) (gives : Gives F l n (block_start_of at) place).
          read_tags caches now b at start (kind_of n) fresh (fresh_tag F l n start) refl (gives_tag F l n at start place fresh.words start_is gives) start_is news;
    }
