-- The first step that applies, by the board's own lines and the tables.
use Rattle.std.specs.Prelude.{ℕ, true, if◌then◌else◌, List, [], get_or, slice_index, IsTrue, Option, Some, None}
use Rattle.spur_addr.specs.Address.{entry_address_of, word_in_block_of}
use Rattle.spur_addr.specs.PageEntry.{is_readable, is_valid, is_dirty, is_leaving, number_of, protection_of}
use Rattle.spur_addr.specs.declared.page_entry.Protection.TheVariants as allow
use Rattle.spur_cache.specs.declared.line.Line.{Line}
use Rattle.spur_cache.specs.Lines.{found, victim_of, word_in}
use Rattle.spur_snoop.specs.declared.Need.{Need}
use Rattle.spur_snoop.specs.declared.Need.TheVariants.{Read, Write}
use Rattle.spur_snoop.specs.Protocol.{is_owned, is_exclusive}
use Rattle.spur_flat.specs.declared.flat.Flat.{Flat}
use Rattle.spur_flat.specs.declared.access.FaultKind.{FaultKind}
use Rattle.spur_flat.specs.declared.access.FaultKind.TheVariants as fault
use Rattle.spur_flat.specs.declared.entry.Layer.{Layer}
use Rattle.spur_flat.specs.declared.entry.Layer.TheVariants.{RootBlock, PteBlock, UserBlock}
use Rattle.spur_flat.specs.Access.{fault_under}
use Rattle.spur_flat.specs.Blocks.{wired_frame}
use Rattle.spur_flat.specs.Pager.{word_of}
use Rattle.spur_flat.specs.TagRules.{access_of}
use Rattle.spur_bus.specs.declared.place.Place.{Place}
use Rattle.spur_walk.specs.declared.looked.Looked.{Looked}
use Rattle.spur_walk.specs.declared.looked.Looked.TheVariants.{Hit, Denied, NeedsDirty, NeedsClaim, Miss}
use Rattle.spur_walk.specs.declared.plan.Plan.{Plan}
use Rattle.spur_walk.specs.declared.plan.Plan.TheVariants as plan
use Rattle.spur_walk.specs.Look.{look_of}
use Rattle.spur_walk.specs.Tables.{logical_flat, root_at, block_address}

-- where a user's block is filled from, by the entry of its page; a block of the page table, by its root entry; and one of
-- the root, by its address
abbrev pub user_place : ℕ → Place
user_place entry = record { frame = number_of entry; prot = protection_of entry; dirty = is_dirty entry }

abbrev pub table_place : ℕ → Place
table_place root = record { frame = number_of root; prot = allow.ReadWrite; dirty = true }

abbrev pub root_place : ℕ → Place
root_place at = record { frame = wired_frame at; prot = allow.ReadOnly; dirty = true }

-- a block is filled, but first the line of another block that stands on its place is written back where it is owned
abbrev pub fill_over : Option Line → Plan → Plan
fill_over None fill = fill
fill_over (Some line) fill = if is_owned line.state then plan.WriteBack (block_address line.tag) else fill

abbrev pub filling : List (Option Line) → Layer → Need → ℕ → Place → Plan
filling own layer need at place = fill_over (victim_of own at) (plan.Fill layer need at place)

-- the fault of an access whose block is not found, by the entry of its page: the first that applies
abbrev pub fault_of : ℕ → Need → Option FaultKind
fault_of entry need = fault_under entry (access_of need)

abbrev pub fault_or : Option FaultKind → Plan → Plan
fault_or None next = next
fault_or (Some kind) next = plan.Fault kind

-- step 1, where the dirty copy is wanted and the entry of the page is found
abbrev pub dirty_plan : ℕ → Plan
dirty_plan entry = if is_leaving entry then plan.Fault fault.Leaving else if is_dirty entry then plan.Refresh else plan.Fault fault.Dirty

-- step 2: the block is not found, and the entry of the page is
abbrev pub user_plan : List (Option Line) → ℕ → Need → ℕ → Plan
user_plan own at need entry = fault_or (fault_of entry need) (filling own UserBlock need at (user_place entry))

-- step 3: the block of the entry is not found, and the root entry is
abbrev pub table_plan : List (Option Line) → ℕ → ℕ → Plan
table_plan own at root = if is_valid root then filling own PteBlock Read (entry_address_of at) (table_place root) else plan.Fault fault.Unmapped

-- step 4: neither is found
abbrev pub root_plan : List (Option Line) → ℕ → Plan
root_plan own at = filling own RootBlock Read (entry_address_of (entry_address_of at)) (root_place (entry_address_of (entry_address_of at)))

-- steps 3 and 4, by the root entry where its block is found
abbrev pub climb : List (Option Line) → ℕ → Option ℕ → Plan
climb own at None = root_plan own at
climb own at (Some root) = table_plan own at root

-- the four steps, by what the cache says of the access and by the entry of the page and the root entry, each where its
-- block is found
abbrev pub plan_by : List (Option Line) → ℕ → Need → Option ℕ → Option ℕ → Looked → Plan
plan_by own at need entry root Hit = plan.Ready
plan_by own at need entry root Denied = plan.Fault fault.Protection
plan_by own at need entry root NeedsClaim = plan.Claim
plan_by own at need None root NeedsDirty = climb own at root
plan_by own at need (Some entry) root NeedsDirty = dirty_plan entry
plan_by own at need None root Miss = climb own at root
plan_by own at need (Some entry) root Miss = user_plan own at need entry

-- a word, where a line is there
abbrev pub where_found : Option Line → ℕ → Option ℕ
where_found None word = None
where_found (Some line) word = Some word

-- the first step towards an access that applies, where the board has these lines and the tables are those of a flat state
abbrev pub plan_of : List (Option Line) → Flat → ℕ → Need → Plan
plan_of own F at need =
    plan_by own at need
    (where_found (found own (entry_address_of at)) (word_of F at))
    (where_found (found own (entry_address_of (entry_address_of at))) (root_at F at))
    (look_of (found own at) need)

-- steps 3 and 4 towards the block of a page's entry, which is to be written
abbrev pub page_climb : List (Option Line) → ℕ → Option ℕ → Plan
page_climb own page None = root_plan own page
page_climb own page (Some root) = filling own PteBlock Write (entry_address_of page) (table_place root)

-- the first step that applies, by the line of that block: where it is there, it is exclusive or is claimed
abbrev pub page_by : List (Option Line) → ℕ → Option ℕ → Option Line → Plan
page_by own page root None = page_climb own page root
page_by own page root (Some line) = if is_exclusive line.state then plan.Ready else plan.Claim

abbrev pub page_plan_of : List (Option Line) → Flat → ℕ → Plan
page_plan_of own F page =
    page_by own page
    (where_found (found own (entry_address_of (entry_address_of page))) (root_at F page))
    (found own (entry_address_of page))

-- the first step of board b, by the tables as the logical memory has them
abbrev pub access_plan : List (List (Option Line)) → List ℕ → ℕ → ℕ → Need → Plan
access_plan caches memory b at need = plan_of (get_or caches b []) (logical_flat caches memory) at need

abbrev pub page_plan : List (List (Option Line)) → List ℕ → ℕ → ℕ → Plan
page_plan caches memory b page = page_plan_of (get_or caches b []) (logical_flat caches memory) page

-- the word of g in a line of its block, where the cache has one
abbrev pub line_word : Option Line → ℕ → Option ℕ
line_word None g = None
line_word (Some line) g = Some (slice_index line.words (word_in_block_of g))

abbrev pub cached_word : List (Option Line) → ℕ → Option ℕ
cached_word own g = line_word (found own g) g

-- the same steps by the words that the cache itself has
abbrev pub own_plan : List (Option Line) → ℕ → Need → Plan
own_plan own at need = plan_by own at need (cached_word own (entry_address_of at)) (cached_word own (entry_address_of (entry_address_of at))) (look_of (found own at) need)

abbrev pub own_page_plan : List (Option Line) → ℕ → Plan
own_page_plan own page = page_by own page (cached_word own (entry_address_of (entry_address_of page))) (found own (entry_address_of page))

-- the word of g in the cache's line of its block is one of an entry, where it has one
abbrev pub IsReadableIn : List (Option Line) → ℕ → Type 0
IsReadableIn own g = IsTrue (is_readable (word_in (found own g) g))
