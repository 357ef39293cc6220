-- The token at the front of bytes that begin with no blank, and what stands behind it.
use Rattle.std.specs.Prelude.{ℕ, if◌then◌else◌, List, [], ◌∷◌, drop, Result, Ok, Err}
use Rattle.std.specs.Char.{is_ascii_graphic}
use Rattle.spur_asm.specs.Bytes.{is_mark}
use Rattle.spur_asm.specs.Token.{Token, Mark}
use Rattle.spur_asm.specs.Lexeme.{token_at, more_of}
use Rattle.spur_asm.specs.declared.fault.AsmKind.{AsmKind}
use Rattle.spur_asm.specs.declared.fault.AsmKind.TheVariants.{BadByte, BadToken}

-- a token is wanted where there is none
abbrev pub front_token : List ℕ → Result Token AsmKind
front_token [] = Err BadToken
front_token (b ∷ bytes) = token_at b bytes

abbrev pub behind_front : List ℕ → List ℕ
behind_front [] = []
behind_front (b ∷ bytes) = drop (more_of b bytes) bytes

-- the token of one byte, which begins no name and no number
abbrev pub single : ℕ → Result Token AsmKind
single b = if is_mark b then Ok (Mark b) else (if is_ascii_graphic b then Err BadToken else Err BadByte)
