-- The canonical text of a program: how its tokens are laid out in lines.
use Rattle.std.specs.Prelude.{ℕ, zero, suc, ◌+◌, ◌-◌, Bool, true, false, ◌||◌, List, [], ◌∷◌, ◌++◌, Option, Some, None, slice_index_or, decimal, if◌then◌else◌}
use Rattle.pb_syntax.specs.declared.kind.TokenKind.{TokenKind}
use Rattle.pb_syntax.specs.declared.kind.TokenKind.TheVariants as k
use Rattle.pb_syntax.specs.Kinds.{word_kind, sign_kind}
use Rattle.pb_syntax.specs.Signs.{signs}
use Rattle.pb_prog.specs.Spelling.{Written, word, numeral, sign_at, text_tokens}
use Rattle.pb_syntax.specs.Trees.{TransformTree}

-- what a written token is to the grammar
abbrev pub written_kind : Written → TokenKind
written_kind (word w) = word_kind w
written_kind (numeral n) = k.Number
written_kind (sign_at p) = sign_kind p

-- its bytes: a number has no leading zeros
abbrev pub written_bytes : Written → List ℕ
written_bytes (word w) = w
written_bytes (numeral n) = decimal n
written_bytes (sign_at p) = slice_index_or signs p []

-- a line ends after `;`, `{` and `}`
abbrev pub ends_line : TokenKind → Bool
ends_line k.Semicolon = true
ends_line k.OpenBrace = true
ends_line k.CloseBrace = true
ends_line _ = false

-- no blank stands before `,` `;` `)` `]` `.` `[`
abbrev pub joins_before : TokenKind → Bool
joins_before k.Comma = true
joins_before k.Semicolon = true
joins_before k.Close = true
joins_before k.CloseBracket = true
joins_before k.Dot = true
joins_before k.OpenBracket = true
joins_before _ = false

-- none stands after `(` `[` `.`
abbrev pub joins_after : TokenKind → Bool
joins_after k.Open = true
joins_after k.OpenBracket = true
joins_after k.Dot = true
joins_after _ = false

-- none stands between a name or `priority` and `(`
abbrev pub joins_both : TokenKind → TokenKind → Bool
joins_both k.Name k.Open = true
joins_both k.Priority k.Open = true
joins_both _ _ = false

-- whether no blank stands between two tokens of a line
abbrev pub joined : TokenKind → TokenKind → Bool
joined a b = joins_after a || (joins_before b || joins_both a b)

-- a line that begins with `}` counts that brace as closed
abbrev pub outside : ℕ → TokenKind → ℕ
outside depth k.CloseBrace = depth - 1
outside depth _ = depth

-- two blanks for each brace that is open
abbrev pub indentation : ℕ → List ℕ
indentation zero = []
indentation (suc n) = 32 ∷ 32 ∷ indentation n

-- what stands before a token, with `depth` braces open and `last` the token before it: where a line begins, its indentation
unfoldable pub space : ℕ → Option TokenKind → TokenKind → List ℕ
space depth None b = indentation (outside depth b)
space depth (Some a) b = if ends_line a then indentation (outside depth b) else (if joined a b then [] else (32 ∷ []))

-- what stands after a token
abbrev pub line_end : TokenKind → List ℕ
line_end a = if ends_line a then (10 ∷ []) else []

-- the braces that are open after a token
abbrev pub depth_after : ℕ → TokenKind → ℕ
depth_after depth k.OpenBrace = depth + 1
depth_after depth k.CloseBrace = depth - 1
depth_after depth _ = depth

-- tokens after others, with `depth` braces open and `last` the token before them
abbrev pub layout : ℕ → Option TokenKind → List Written → List ℕ
layout depth last [] = []
layout depth last (t ∷ ts) =
    (space depth last (written_kind t) ++ (written_bytes t ++ line_end (written_kind t)))
    ++ layout (depth_after depth (written_kind t)) (Some (written_kind t)) ts

-- the canonical text of a program
abbrev pub canonical : List TransformTree → List ℕ
canonical text = layout 0 None (text_tokens text)
