-- Why a unit has no opening: the first of four faults that applies.
use Rattle.std.specs.Prelude.{◌≡◌, ◌⊎◌, ℕ, ◌+◌, ◌/◌, ◌^◌, ◌==◌, nat_lt, Bool, not, ◌||◌, List, [], ◌∷◌, ◌++◌, Option, Some, None, length, if◌then◌else◌}
use Rattle.std.specs.Option.{option_or, option_map}
use Rattle.std.specs.List.{find, list_any}
use Rattle.spur_addr.specs.Address.{page_of, page_address}
use Rattle.spur_object.specs.declared.unit.Unit.{Unit as Program}
use Rattle.spur_object.specs.declared.unit.BoardText.{BoardText}
use Rattle.spur_object.specs.declared.unit.PageText.{PageText}
use Rattle.spur_object.specs.declared.unit.WordText.{WordText}
use Rattle.spur_loader.specs.declared.opening.Options.{Options}
use Rattle.spur_loader.specs.declared.fault.LoadFault.{LoadFault}
use Rattle.spur_loader.specs.declared.fault.LoadFault.TheVariants.{Segment255, PageTwice, WordOutside, NoRoom, NoMemory}
use Rattle.spur_loader.specs.Opening.{roots_of, declares}

-- ---- segment 255, in which the page table stands

abbrev pub board_names_255 : BoardText → Bool
board_names_255 board = list_any (λ seg. seg == 255) board.segs

abbrev pub page_names_255 : PageText → Bool
page_names_255 page = page.page / 2 ^ 18 == 255

abbrev pub word_names_255 : WordText → Bool
word_names_255 word = word.at / 2 ^ 30 == 255

abbrev pub names_255 : Program → Bool
names_255 unit =
    list_any board_names_255 unit.boards || (list_any page_names_255 unit.pages || list_any word_names_255 unit.words)

abbrev pub segment_fault : Program → Option LoadFault
segment_fault unit = if names_255 unit then Some Segment255 else None

-- ---- a page that is declared again

-- the first page that stands among those before it
abbrev pub first_again : List PageText → List PageText → Option PageText
first_again before [] = None
first_again before (page ∷ more) = if declares before page.page then Some page else first_again (before ++ page ∷ []) more

-- told by the address of its first byte
abbrev pub again_fault : List PageText → Option LoadFault
again_fault pages = option_map (λ page. PageTwice (page_address page.page)) (first_again [] pages)

-- ---- a word whose page is not declared

abbrev pub is_outside : List PageText → WordText → Bool
is_outside pages word = not (declares pages (page_of word.at))

abbrev pub first_outside : List PageText → List WordText → Option WordText
first_outside pages words = find (is_outside pages) words

-- told by the word's own address
abbrev pub outside_fault : List PageText → List WordText → Option LoadFault
outside_fault pages words = option_map (λ word. WordOutside word.at) (first_outside pages words)

-- ---- too many frames

-- the frames of the root table, of the page table, and of data
abbrev pub frames_wanted : List PageText → Options → ℕ
frames_wanted pages options = 64 + length (roots_of pages) + options.frames

abbrev pub room_fault : List PageText → Options → Option LoadFault
room_fault pages options =
    if nat_lt 4096 (frames_wanted pages options) then Some (NoRoom (frames_wanted pages options)) else None

-- ---- all of them

abbrev pub load_fault_of : Program → Options → Option LoadFault
load_fault_of unit options =
    option_or (segment_fault unit)
    (option_or (again_fault unit.pages)
    (option_or (outside_fault unit.pages unit.words)
    (room_fault unit.pages options)))

-- a call's fault: the one that applies, or want of memory
abbrev pub IsFault : Option LoadFault → LoadFault → Type 0
IsFault expected fault = (fault ≡ NoMemory) ⊎ (expected ≡ Some fault)
