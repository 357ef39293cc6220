-- What a cache says of an access.
use Rattle.std.specs.Prelude.{not, if◌then◌else◌, Option, Some, None}
use Rattle.spur_cache.specs.declared.line.Line.{Line}
use Rattle.spur_snoop.specs.declared.Need.{Need}
use Rattle.spur_snoop.specs.declared.Need.TheVariants.{Read, Write}
use Rattle.spur_flat.specs.Access.{grants}
use Rattle.spur_snoop.specs.Protocol.{is_exclusive}
use Rattle.spur_flat.specs.TagRules.{access_of}
use Rattle.spur_walk.specs.declared.looked.Looked.{Looked}
use Rattle.spur_walk.specs.declared.looked.Looked.TheVariants.{Hit, Denied, NeedsDirty, NeedsClaim, Miss}

-- what a line whose protection allows the need says: a read hits; a write wants the dirty copy set first, and then the
-- block for itself
abbrev pub look_at : Line → Need → Looked
look_at line Read = Hit
look_at line Write = if not line.dirty then NeedsDirty else if not (is_exclusive line.state) then NeedsClaim else Hit

-- what a cache says of an access to a block of which it has this line
abbrev pub look_of : Option Line → Need → Looked
look_of None need = Miss
look_of (Some line) need = if not (grants line.prot (access_of need)) then Denied else look_at line need
