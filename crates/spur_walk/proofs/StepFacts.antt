-- What a step leaves.
use Rattle.std.proofs.Common.{◌≡◌, ◌∙◌, ℕ, ◌+◌, ◌*◌, ◌/◌, ◌^◌, ◌<◌, ◌≤◌, ◌&&◌, Bool, true, false, not, ap, sym, refl, subst, List, [], get_or, length, slice_set, Option, Some, None, arith}
use Rattle.std.proofs.Math.ListN.{set}
use Rattle.std.proofs.lemmas.List as L
use Rattle.spur_addr.specs.Address.{block_of, block_start_of, entry_address_of, table_start, root_start}
use Rattle.spur_addr.specs.PageEntry.{is_dirty, is_leaving}
use Rattle.spur_addr.specs.declared.page_entry.Protection.{Protection}
use Rattle.spur_cache.specs.declared.line.Line.{Line}
use Rattle.spur_cache.specs.Lens.{IsLens, Lens, caches}
use Rattle.spur_cache.specs.Lines.{changed_found, dirtied, index_of, with_dirty}
use Rattle.spur_cache.proofs.CacheFacts.{found_held}
use Rattle.spur_snoop.specs.declared.BlockState.{BlockState}
use Rattle.spur_snoop.specs.declared.BlockState.TheVariants.{UnOwned, OwnedExclusive}
use Rattle.spur_snoop.specs.declared.BusKind.{BusKind}
use Rattle.spur_snoop.specs.declared.BusKind.TheVariants as bus
use Rattle.spur_snoop.specs.declared.Need.{Need}
use Rattle.spur_snoop.specs.Protocol.{is_owned, is_alive}
use Rattle.spur_flat.specs.declared.flat.Flat.{Flat}
use Rattle.spur_flat.specs.declared.access.FaultKind.{FaultKind}
use Rattle.spur_flat.specs.declared.tag.Tag.{Tag}
use Rattle.spur_flat.specs.declared.entry.Entry.{Entry}
use Rattle.spur_flat.specs.declared.entry.Entry.TheVariants as entry
use Rattle.spur_flat.specs.declared.entry.Layer.{Layer}
use Rattle.spur_flat.specs.Pager.{word_of}
use Rattle.spur_flat.specs.TagLines.{each_from, filled_state, kind_of, tags_on}
use Rattle.spur_flat.specs.TagLines as T
use Rattle.spur_flat.specs.TagRules.{dirty_copy, tag_condition, state_number}
use Rattle.spur_bus.specs.declared.place.Place.{Place}
use Rattle.spur_bus.specs.Boards.{line_in, line_of_block, turned, turned_lines}
use Rattle.spur_bus.specs.Logical.{logical_block, logical_words}
use Rattle.spur_bus.specs.Agrees.{Agrees, AgreesWithMemory}
use Rattle.spur_bus.specs.Calls.{HasLine, KeepsAllWords, claimed, shared_again, written_back, MovesTags, MovesTagsAs, cache_tags, line_count, read_line, tag_of, tags_of}
use Rattle.spur_bus.proofs.Turn.{CameFrom}
use Rattle.spur_bus.proofs.EachFacts.{length-each}
use Rattle.spur_bus.proofs.FromFacts.{From, Fresh, Mine, Other, from}
use Rattle.spur_bus.proofs.AgreesFacts.{other_owned}
use Rattle.spur_bus.proofs.BoardFacts.{lines_here, restated_is}
use Rattle.spur_bus.proofs.LensFacts.{caches-set}
use Rattle.spur_bus.proofs.CallFacts.{is_here, start_block, tags_in}
use Rattle.spur_bus.proofs.TagsFacts.{with-tags}
use Rattle.spur_bus.proofs.AllowFacts.{claim-tagged, back-tagged, read-tagged}
use Rattle.spur_walk.specs.declared.plan.Plan.{Plan}
use Rattle.spur_walk.specs.declared.plan.Plan.TheVariants as plan
use Rattle.spur_walk.specs.Tables.{HasTables, HasTablesOf, StandsIn, block_address, flat_of_words, logical_flat}
use Rattle.spur_walk.specs.Present.{AreMapped, ArePresent, MayWalk}
use Rattle.spur_walk.specs.Steps.{MayFill, MayRefresh, MayTake, Steps, answer_of, dirtied_in, stepped, stepped_memory, tags_walked, walked_refusal}
use Rattle.spur_walk.proofs.FrameFacts.{may_read}
use Rattle.spur_walk.proofs.TableFacts.{word_start}
use Rattle.spur_walk.proofs.FillFacts.{Suits, above_state, alive, fills_gives, fills_layer, fills_stands, fills_suits, fills_tables, same_start}
use Rattle.spur_walk.proofs.PlanFacts.{own_cache}
use Rattle.spur_walk.proofs.PutFacts.{IsLike, Put, Here, There, agrees-put, alike, count-put, keeps-put, length-put, put, put_from}

-- lines and present pages, line by line
pub suits_all : (F : Flat) (caches : List (List (Option Line))) (i s : ℕ) (line : Line) → ArePresent F caches → line_in caches i s ≡ Some line → Suits F line
suits_all F caches i s line present there = record {
  user = λ (low : block_address line.tag < table_start). present.user i s line there low;
  table = λ (from : table_start ≤ block_address line.tag) (to : block_address line.tag < root_start). present.table i s line there from to;
  root = λ (from : root_start ≤ block_address line.tag). present.root i s line there from;
  unowned = λ (from : root_start ≤ block_address line.tag). present.unowned i s line there from;
}

pub present_all : (F : Flat) (caches : List (List (Option Line))) → ((i s : ℕ) (line : Line) → line_in caches i s ≡ Some line → Suits F line) → ArePresent F caches
present_all F caches suits = record {
  user = λ (i s : ℕ) (line : Line) (there : line_in caches i s ≡ Some line) (low : block_address line.tag < table_start). (suits i s line there).user low;
  table = λ (i s : ℕ) (line : Line) (there : line_in caches i s ≡ Some line) (from : table_start ≤ block_address line.tag) (to : block_address line.tag < root_start). (suits i s line there).table from to;
  root = λ (i s : ℕ) (line : Line) (there : line_in caches i s ≡ Some line) (from : root_start ≤ block_address line.tag). (suits i s line there).root from;
  unowned = λ (i s : ℕ) (line : Line) (there : line_in caches i s ≡ Some line) (from : root_start ≤ block_address line.tag). (suits i s line there).unowned from;
}

not_owned : (o n : Bool) → (n ≡ true → o ≡ true) → o ≡ false → n ≡ false
not_owned o false h is = refl
not_owned o true h is = let clash : true ≡ false = sym (h refl) ∙ is in cc

-- a line put in another state
pub suits_restated : (F : Flat) (line : Line) (state : BlockState) → Suits F line → (root_start ≤ block_address line.tag → is_owned state ≡ false) → Suits F (record line { state = state })
suits_restated F line state suits un = record {
  user = λ (low : block_address line.tag < table_start).
      let was = suits.user low in
      record { valid = was.valid; frame = was.frame; prot = was.prot; dirty = was.dirty };
  table = suits.table;
  root = suits.root;
  unowned = un;
}

-- a line with its dirty copy set, where the page's entry is dirty
pub suits_dirtied : (F : Flat) (line : Line) → Suits F line → is_dirty (word_of F (block_address line.tag)) ≡ true → Suits F (dirtied line)
suits_dirtied F line suits is = record {
  user = λ (low : block_address line.tag < table_start).
      let was = suits.user low in
      record { valid = was.valid; frame = was.frame; prot = was.prot; dirty = λ (set : true ≡ true). is };
  table = suits.table;
  root = suits.root;
  unowned = suits.unowned;
}

-- a line that saw a transaction is as before but for its state
came_is : (block : ℕ) (kind : BusKind) (old new : Line) → CameFrom block kind old new → new ≡ record old { state = new.state }
came_is block kind old new came =
    ap (λ (n : ℕ). record new { tag = n }) came.tag
    ∙ ap (λ (n : ℕ). record new { tag = old.tag; frame = n }) came.frame
    ∙ ap (λ (p : Protection). record new { tag = old.tag; frame = old.frame; prot = p }) came.prot
    ∙ ap (λ (d : Bool). record new { tag = old.tag; frame = old.frame; prot = old.prot; dirty = d }) came.dirty
    ∙ ap (λ (ws : List ℕ). record new { tag = old.tag; frame = old.frame; prot = old.prot; dirty = old.dirty; words = ws }) came.words

suits_came : (F : Flat) (block : ℕ) (kind : BusKind) (old new : Line) → CameFrom block kind old new → Suits F old → Suits F new
suits_came F block kind old new came suits =
    subst (λ (m : Line). Suits F m) (sym (came_is block kind old new came))
    (suits_restated F old new.state suits (λ (from : root_start ≤ block_address old.tag). not_owned (is_owned old.state) (is_owned new.state) (other_owned block kind old new came) (suits.unowned from)))

suits_from : (F : Flat) (caches : List (List (Option Line))) (own block : ℕ) (kind : BusKind) (fresh : Line) (i s : ℕ) (l : Line) → ArePresent F caches → Suits F fresh → From caches own block kind fresh i s l → Suits F l
suits_from F caches own block kind fresh i s l present new (Fresh e is) = subst (λ (m : Line). Suits F m) (sym is) new
suits_from F caches own block kind fresh i s l present new (Mine e apart there) = suits_all F caches i s l present there
suits_from F caches own block kind fresh i s l present new (Other old e there came) = suits_came F block kind old l came (suits_all F caches i s old present there)

pub present-turned : (F : Flat) (caches : List (List (Option Line))) (own g : ℕ) (kind : BusKind) (fresh : Line) → Agrees caches → fresh.tag ≡ block_of g → Suits F fresh → ArePresent F caches → ArePresent F (turned caches own g kind fresh)
present-turned F caches own g kind fresh agree tag new present =
    present_all F (turned caches own g kind fresh) (λ (i s : ℕ) (l : Line) (h : line_in (turned caches own g kind fresh) i s ≡ Some l).
    suits_from F caches own (block_of g) kind fresh i s l present new (from caches own g kind fresh i s l agree tag h))

-- how blocks stand
stands_from : (F : Flat) (caches : List (List (Option Line))) (own block : ℕ) (kind : BusKind) (fresh : Line) (i s : ℕ) (l : Line) → AreMapped F caches → StandsIn F fresh.tag fresh.frame → From caches own block kind fresh i s l → StandsIn F l.tag l.frame
stands_from F caches own block kind fresh i s l mapped new (Fresh e is) = subst (λ (m : Line). StandsIn F m.tag m.frame) (sym is) new
stands_from F caches own block kind fresh i s l mapped new (Mine e apart there) = mapped i s l there
stands_from F caches own block kind fresh i s l mapped new (Other old e there came) = subst (λ (m : Line). StandsIn F m.tag m.frame) (sym (came_is block kind old l came)) (mapped i s old there)

pub mapped-turned : (F : Flat) (caches : List (List (Option Line))) (own g : ℕ) (kind : BusKind) (fresh : Line) → Agrees caches → fresh.tag ≡ block_of g → StandsIn F fresh.tag fresh.frame → AreMapped F caches → AreMapped F (turned caches own g kind fresh)
mapped-turned F caches own g kind fresh agree tag new mapped i s l h = stands_from F caches own (block_of g) kind fresh i s l mapped new (from caches own g kind fresh i s l agree tag h)

pub length-turned : (caches : List (List (Option Line))) (own g : ℕ) (kind : BusKind) (fresh : Line) → length (turned caches own g kind fresh) ≡ length caches
length-turned caches own g kind fresh = length-each (turned_lines own g kind fresh) 0 caches

-- the logical memory is the same
pub same_flat : (before after : List (List (Option Line))) (old new : List ℕ) → logical_words after new ≡ logical_words before old → logical_flat after new ≡ logical_flat before old
same_flat before after old new same = ap (λ (ws : List ℕ). flat_of_words ws) same

-- what a step did, on caches and memory
pub record Did (before : List (List (Option Line))) (old : List ℕ) (after : List (List (Option Line))) (new : List ℕ) : Type 0 where
  pub agree : Agrees after
  pub serves : AgreesWithMemory after new
  pub logical : logical_words after new ≡ logical_words before old
  pub mapped : AreMapped (logical_flat before old) after
  pub present : ArePresent (logical_flat before old) before → ArePresent (logical_flat before old) after
  pub count : length after ≡ length before
  pub lines : line_count after ≡ line_count before
  pub size : length new ≡ length old

pub walks : (before after : List (List (Option Line))) (old new : List ℕ) → MayWalk before old → Did before old after new → MayWalk after new
walks before after old new may did =
    let same : logical_flat before old ≡ logical_flat after new = sym (same_flat before after old new did.logical) in
    record {
      agree = did.agree;
      serves = did.serves;
      tables = subst HasTables same may.tables;
      mapped = subst (λ (F : Flat). AreMapped F after) same did.mapped;
    }

pub steps : (before after : List (List (Option Line))) (old new : List ℕ) (b g : ℕ) (p : Plan) → MayWalk before old → Did before old after new → after ≡ stepped before old b g p
    → new ≡ stepped_memory before old b p
    → ((F : Flat) → HasTablesOf F (logical_words before old) → walked_refusal F (tags_of before) (answer_of b g p) ≡ None)
    → ((F : Flat) → HasTablesOf F (logical_words before old) → tags_of after ≡ tags_walked F (tags_of before) (answer_of b g p))
    → Steps before old b g p after new
steps before after old new b g p may did is memory_is tagged tags = record {
  caches = is;
  memory = memory_is;
  walk = walks before after old new may did;
  logical = did.logical;
  present = λ (present : ArePresent (logical_flat before old) before). subst (λ (F : Flat). ArePresent F after) (sym (same_flat before after old new did.logical)) (did.present present);
  count = did.count;
  lines = did.lines;
  size = did.size;
  tagged = tagged;
  tags = tags;
}

-- nothing was done
pub still : (caches : List (List (Option Line))) (memory : List ℕ) → MayWalk caches memory → Did caches memory caches memory
still caches memory may = record {
  agree = may.agree;
  serves = may.serves;
  logical = refl;
  mapped = may.mapped;
  present = λ (present : ArePresent (logical_flat caches memory) caches). present;
  count = refl;
  lines = refl;
  size = refl;
}

pub ready_steps : (caches : List (List (Option Line))) (memory : List ℕ) (b g : ℕ) → MayWalk caches memory → Steps caches memory b g plan.Ready caches memory
ready_steps caches memory b g may =
    steps caches caches memory memory b g plan.Ready may (still caches memory may) refl refl
    (λ (F : Flat) (has : HasTablesOf F (logical_words caches memory)). refl) (λ (F : Flat) (has : HasTablesOf F (logical_words caches memory)). refl)

pub fault_steps : (caches : List (List (Option Line))) (memory : List ℕ) (b g : ℕ) (kind : FaultKind) → MayWalk caches memory → Steps caches memory b g (plan.Fault kind) caches memory
fault_steps caches memory b g kind may =
    steps caches caches memory memory b g (plan.Fault kind) may (still caches memory may) refl refl
    (λ (F : Flat) (has : HasTablesOf F (logical_words caches memory)). refl) (λ (F : Flat) (has : HasTablesOf F (logical_words caches memory)). refl)

-- a line put in another state
restated_did : (caches news : List (List (Option Line))) (old new : List ℕ) (b g : ℕ) (kind : BusKind) (state : BlockState) (line : Line) → MayWalk caches old → b < length caches → line_of_block caches b g ≡ Some line
    → (root_start ≤ block_address line.tag → is_owned state ≡ false) → news ≡ turned caches b g kind (record line { state = state })
    → Agrees news → AgreesWithMemory news new → logical_words news new ≡ logical_words caches old → line_count news ≡ line_count caches → length new ≡ length old → Did caches old news new
restated_did caches news old new b g kind state line may within there un is agree serves logical lines size =
    let L : Flat = logical_flat caches old in
    let fresh : Line = record line { state = state } in
    let here = is_here caches b g line within there in
    record {
      agree = agree;
      serves = serves;
      logical = logical;
      mapped = subst (λ (cs : List (List (Option Line))). AreMapped L cs) (sym is) (mapped-turned L caches b g kind fresh may.agree here.tag (may.mapped b here.slot line here.there) may.mapped);
      present = λ (present : ArePresent L caches). subst (λ (cs : List (List (Option Line))). ArePresent L cs) (sym is)
          (present-turned L caches b g kind fresh may.agree here.tag (suits_restated L line state (suits_all L caches b here.slot line present here.there) un) present);
      count = ap (λ (cs : List (List (Option Line))). length cs) is ∙ length-turned caches b g kind fresh;
      lines = lines;
      size = size;
    }

below_root : (g : ℕ) (line : Line) (state : BlockState) → g < root_start → line.tag ≡ block_of g → root_start ≤ block_address line.tag → is_owned state ≡ false
below_root g line state low tag from =
    let l : g < 255 * 2 ^ 30 + 255 * 2 ^ 20 = low in
    let t : line.tag ≡ g / 2 ^ 5 = tag in
    let f : 255 * 2 ^ 30 + 255 * 2 ^ 20 ≤ line.tag * 2 ^ 5 = from in
    absurd (omega arith)

-- a claim
pub claim_steps : (caches news : List (List (Option Line))) (memory : List ℕ) (b g : ℕ) (now : Entry) → MayWalk caches memory → b < length caches → (may : MayTake caches b g)
    → news ≡ claimed caches b g → Agrees news → KeepsAllWords caches news → line_count news ≡ line_count caches → MovesTags caches news now → now ≡ entry.Claim b (block_start_of g)
    → Steps caches memory b g plan.Claim news memory
claim_steps caches news memory b g now walk within may is agree words lines tags now_is =
    let line : Line = may.shared.line in
    let here = is_here caches b g line within may.shared.there in
    let kept = words memory walk.serves in
    let turns = restated_is caches news b g bus.Claim OwnedExclusive line is may.shared.there in
    steps caches news memory memory b g plan.Claim walk
    (restated_did caches news memory memory b g bus.Claim OwnedExclusive line walk within may.shared.there (below_root g line OwnedExclusive may.low here.tag) turns agree kept.serves kept.logical lines refl)
    is refl
    (λ (F : Flat) (has : HasTablesOf F (logical_words caches memory)). claim-tagged F caches b g within may.shared)
    (λ (F : Flat) (has : HasTablesOf F (logical_words caches memory)). tags F ∙ ap (tags_on F (tags_of caches)) now_is)

-- a write-back
pub back_steps : (caches news : List (List (Option Line))) (old new : List ℕ) (b g at : ℕ) (now : Entry) → MayWalk caches old → b < length caches → (may : HasLine caches b at is_owned)
    → news ≡ shared_again caches b at → new ≡ written_back old at (line_of_block caches b at) → Agrees news → AgreesWithMemory news new → logical_words news new ≡ logical_words caches old → line_count news ≡ line_count caches → length new ≡ length old
    → MovesTags caches news now → now ≡ entry.WriteBack b (block_start_of at) → Steps caches old b g (plan.WriteBack at) news new
back_steps caches news old new b g at now walk within may is memory_is agree serves logical lines size tags now_is =
    let turns = restated_is caches news b at bus.WriteBack UnOwned may.line is may.there in
    steps caches news old new b g (plan.WriteBack at) walk
    (restated_did caches news old new b at bus.WriteBack UnOwned may.line walk within may.there (λ (from : root_start ≤ block_address may.line.tag). refl) turns agree serves logical lines size)
    is memory_is
    (λ (F : Flat) (has : HasTablesOf F (logical_words caches old)). back-tagged F caches b at within may)
    (λ (F : Flat) (has : HasTablesOf F (logical_words caches old)). tags F ∙ ap (tags_on F (tags_of caches)) now_is)

-- a fill
pub fill_steps : (caches news : List (List (Option Line))) (memory : List ℕ) (b g at : ℕ) (l : Layer) (n : Need) (place : Place) (now : Entry) → MayWalk caches memory → b < length caches → MayFill (logical_flat caches memory) caches b l n at place
    → news ≡ turned caches b at (kind_of n) (read_line at (filled_state n) place (logical_block caches memory place.frame at)) → Agrees news → AgreesWithMemory news memory → logical_words news memory ≡ logical_words caches memory → line_count news ≡ line_count caches
    → MovesTagsAs caches news now l n (block_start_of at) place → now ≡ entry.Fill b l n (block_start_of at) → Steps caches memory b g (plan.Fill l n at place) news memory
fill_steps caches news memory b g at l n place now walk within may is agree serves logical lines tags now_is =
    let L : Flat = logical_flat caches memory in
    let words : List ℕ = logical_block caches memory place.frame at in
    let fresh : Line = read_line at (filled_state n) place words in
    let stands : StandsIn L (block_of at) place.frame = fills_stands L caches b l n at place may.fills in
    steps caches news memory memory b g (plan.Fill l n at place) walk
    (record {
      agree = agree;
      serves = serves;
      logical = logical;
      mapped = subst (λ (cs : List (List (Option Line))). AreMapped L cs) (sym is) (mapped-turned L caches b at (kind_of n) fresh walk.agree refl stands walk.mapped);
      present = λ (present : ArePresent L caches). subst (λ (cs : List (List (Option Line))). ArePresent L cs) (sym is)
          (present-turned L caches b at (kind_of n) fresh walk.agree refl (fills_suits L caches b l n at place words may.fills) present);
      count = ap (λ (cs : List (List (Option Line))). length cs) is ∙ length-turned caches b at (kind_of n) fresh;
      lines = lines;
      size = refl;
    })
    is refl
    (λ (F : Flat) (has : HasTablesOf F (logical_words caches memory)).
    read-tagged F caches memory b at place.frame l n within (may_read caches memory b at place.frame walk may.lacks may.victim stands)
    (fills_layer L caches b l n at place may.fills) (fills_tables F L caches memory b l n at place walk within has may.fills))
    (λ (F : Flat) (has : HasTablesOf F (logical_words caches memory)).
    tags F (fills_gives F L caches b l n at place has may.fills) ∙ ap (tags_on F (tags_of caches)) now_is)

-- a dirty copy that is set
dirtied_is : (caches : List (List (Option Line))) (b g : ℕ) (line : Line) → line_of_block caches b g ≡ Some line → dirtied_in caches b g ≡ put caches b (index_of (get_or caches b []) (block_of g)) (dirtied line)
dirtied_is caches b g line there = ap (λ (o : Option Line). slice_set caches b (changed_found (get_or caches b []) (index_of (get_or caches b []) (block_of g)) dirtied o)) there

put_stands : (F : Flat) (caches : List (List (Option Line))) (b s : ℕ) (fresh line : Line) (i t : ℕ) (l : Line) → AreMapped F caches → StandsIn F fresh.tag fresh.frame → Put caches b s fresh i t l → StandsIn F l.tag l.frame
put_stands F caches b s fresh line i t l mapped new (Here e f is) = subst (λ (m : Line). StandsIn F m.tag m.frame) (sym is) new
put_stands F caches b s fresh line i t l mapped new (There stood away) = mapped i t l stood

put_suits : (F : Flat) (caches : List (List (Option Line))) (b s : ℕ) (fresh : Line) (i t : ℕ) (l : Line) → ArePresent F caches → Suits F fresh → Put caches b s fresh i t l → Suits F l
put_suits F caches b s fresh i t l present new (Here e f is) = subst (λ (m : Line). Suits F m) (sym is) new
put_suits F caches b s fresh i t l present new (There stood away) = suits_all F caches i t l present stood

refresh_did : (caches : List (List (Option Line))) (memory : List ℕ) (b g : ℕ) → MayWalk caches memory → b < length caches → MayRefresh (logical_flat caches memory) caches b g → Did caches memory (dirtied_in caches b g) memory
refresh_did caches memory b g walk within may =
    let L : Flat = logical_flat caches memory in
    let line : Line = may.line in
    let fresh : Line = dirtied line in
    let slot : ℕ = index_of (get_or caches b []) (block_of g) in
    let here = is_here caches b g line within may.there in
    let there : line_in caches b slot ≡ Some line = ap (line_in caches b) (sym here.slot_is) ∙ here.there in
    let like : IsLike line fresh = record { tag = refl; frame = refl; state = refl; words = refl } in
    let word : word_of L (block_address line.tag) ≡ word_of L g = ap (λ (n : ℕ). word_of L (block_address n)) here.tag ∙ word_start L g in
    let kept = keeps-put caches b slot fresh line memory walk.agree walk.serves within there like in
    subst (λ (cs : List (List (Option Line))). Did caches memory cs memory) (sym (dirtied_is caches b g line may.there)) (record {
      agree = agrees-put caches b slot fresh line walk.agree within there (alike caches b slot fresh line walk.agree within there like);
      serves = kept.serves;
      logical = kept.logical;
      mapped = λ (i t : ℕ) (l : Line) (h : line_in (put caches b slot fresh) i t ≡ Some l).
          put_stands L caches b slot fresh line i t l walk.mapped (walk.mapped b slot line there) (put_from caches b slot fresh i t l within h);
      present = λ (present : ArePresent L caches). present_all L (put caches b slot fresh) (λ (i t : ℕ) (l : Line) (h : line_in (put caches b slot fresh) i t ≡ Some l).
          put_suits L caches b slot fresh i t l present (suits_dirtied L line (suits_all L caches b slot line present there) (ap (λ (w : ℕ). is_dirty w) word ∙ may.dirty)) (put_from caches b slot fresh i t l within h));
      count = length-put caches b slot fresh;
      lines = count-put caches b slot fresh;
      size = refl;
    })

dirtied_tags : (caches : List (List (Option Line))) (b g : ℕ) (line : Line) → b < length caches → line_of_block caches b g ≡ Some line
    → tags_of (dirtied_in caches b g) ≡ T.with_tag_at (tags_of caches) b (block_of (block_start_of g)) (T.dirtied_tag (T.tag_at (tags_of caches) b (block_of (block_start_of g))))
dirtied_tags caches b g line within is =
    let own : List (Option Line) = get_or caches b [] in
    let fresh : Line = dirtied line in
    ap tags_of (dirtied_is caches b g line is)
    ∙ L.map-set cache_tags caches b (slice_set own (index_of own (block_of g)) (Some fresh))
    ∙ ap (slice_set (tags_of caches) b) (with-tags own (block_of g) (Some fresh) ∙ ap (λ (ts : List (Option Tag)). T.with_tag ts (block_of g) (Some (tag_of fresh))) (sym (L.get_or-map cache_tags caches b [] [] within)))
    ∙ ap (λ (t : Option Tag). T.with_tag_at (tags_of caches) b (block_of g) (T.dirtied_tag t)) (sym (tags_in caches b g line within is))
    ∙ ap (λ (n : ℕ). T.with_tag_at (tags_of caches) b n (T.dirtied_tag (T.tag_at (tags_of caches) b n))) (sym (start_block g))

all_three : (a d c : Bool) → a ≡ true → d ≡ false → c ≡ true → (a && not d && c) ≡ true
all_three true false true ha hd hc = refl
all_three true false false ha hd hc = cc
all_three true true c ha hd hc = cc
all_three false d c ha hd hc = cc

both : (a c : Bool) → a ≡ true → c ≡ false → (a && not c) ≡ true
both true false ha hc = refl
both true true ha hc = cc
both false c ha hc = cc

two_held : (a c : Bool) (m n x y : ℕ) → a ≡ true → c ≡ true → tag_condition a m x (tag_condition c n y None) ≡ None
two_held true true m n x y ha hc = refl
two_held true false m n x y ha hc = cc
two_held false c m n x y ha hc = cc

refresh_tagged : (F : Flat) (caches : List (List (Option Line))) (memory : List ℕ) (b g : ℕ) → MayWalk caches memory → b < length caches → HasTablesOf F (logical_words caches memory) → MayRefresh (logical_flat caches memory) caches b g
    → walked_refusal F (tags_of caches) (answer_of b g plan.Refresh) ≡ None
refresh_tagged F caches memory b g walk within has may =
    let L : Flat = logical_flat caches memory in
    let start : ℕ = block_start_of g in
    let own : Option Tag = T.tag_at (tags_of caches) b (block_of start) in
    let own_is : own ≡ Some (tag_of may.line) = ap (λ (n : ℕ). T.tag_at (tags_of caches) b n) (start_block g) ∙ tags_in caches b g may.line within may.there in
    let above : BlockState = T.block_state (T.tag_at (tags_of caches) b (block_of (entry_address_of start))) in
    let word : word_of F start ≡ word_of L g = same_start F L g has may.user in
    let valid : is_alive may.line.state ≡ true = alive may.line.state (found_held (get_or caches b []) g may.line (own_cache caches b walk.agree within) may.there).valid in
    let first : (is_alive (T.block_state own) && not (dirty_copy own) && is_alive above) ≡ true =
    all_three (is_alive (T.block_state own)) (dirty_copy own) (is_alive above) (ap (λ (o : Option Tag). is_alive (T.block_state o)) own_is ∙ valid) (ap dirty_copy own_is ∙ may.clear) (above_state caches memory b g walk within may.above) in
    let second : (is_dirty (word_of F start) && not (is_leaving (word_of F start))) ≡ true =
    both (is_dirty (word_of F start)) (is_leaving (word_of F start)) (ap (λ (w : ℕ). is_dirty w) word ∙ may.dirty) (ap (λ (w : ℕ). is_leaving w) word ∙ may.staying) in
    two_held (is_alive (T.block_state own) && not (dirty_copy own) && is_alive above) (is_dirty (word_of F start) && not (is_leaving (word_of F start))) 14 15 (state_number above) (word_of F start) first second

pub refresh_steps : (caches news : List (List (Option Line))) (memory : List ℕ) (b g : ℕ) → MayWalk caches memory → b < length caches → MayRefresh (logical_flat caches memory) caches b g → news ≡ dirtied_in caches b g → Steps caches memory b g plan.Refresh news memory
refresh_steps caches news memory b g walk within may is =
    steps caches news memory memory b g plan.Refresh walk
    (subst (λ (cs : List (List (Option Line))). Did caches memory cs memory) (sym is) (refresh_did caches memory b g walk within may))
    is refl
    (λ (F : Flat) (has : HasTablesOf F (logical_words caches memory)). refresh_tagged F caches memory b g walk within has may)
    (λ (F : Flat) (has : HasTablesOf F (logical_words caches memory)). ap tags_of is ∙ dirtied_tags caches b g may.line within may.there)

-- the caches of boards of which one has its dirty copy set
pub dirtied_caches : {X : Type 0} (lens : Lens X) → IsLens lens → (b g : ℕ) (boards : List X) (d y : X) → b < length boards
    → y ≡ lens.with_lines (get_or boards b d) (with_dirty (lens.lines_of (get_or boards b d)) g) → caches lens (set boards b y) ≡ dirtied_in (caches lens boards) b g
dirtied_caches lens lawful b g boards d y within is =
    caches-set lens lawful boards b d y (with_dirty (lens.lines_of (get_or boards b d)) g) is
    ∙ ap (λ (ls : List (Option Line)). set (caches lens boards) b (with_dirty ls g)) (sym (lines_here lens.lines_of boards b d within))
