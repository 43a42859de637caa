-- The signs and keywords: their bytes, their places in the list `( ) { } [ ] , ; . .. = == != < <= > >= + - * / % && || !`,
-- and what they are to the grammar.
use Rattle.std.specs.Prelude.{ℕ, Bool, ◌&&◌, ◌||◌, ◌==◌, List, [], ◌∷◌, map, Option, Some, None, is_some, codes, if◌then◌else◌}
use Rattle.pb_syntax.specs.declared.kind.TokenKind.{TokenKind}
use Rattle.pb_syntax.specs.declared.kind.TokenKind.TheVariants as k

-- `..` `==` `!=` `<=` `>=` `&&` `||`
abbrev pub long_sign : ℕ → ℕ → Option ℕ
long_sign a b =
    if a == 46 && b == 46 then Some 9
    else (if a == 61 && b == 61 then Some 11
    else (if a == 33 && b == 61 then Some 12
    else (if a == 60 && b == 61 then Some 14
    else (if a == 62 && b == 61 then Some 16
    else (if a == 38 && b == 38 then Some 22
    else (if a == 124 && b == 124 then Some 23 else None))))))

-- `(` `)` `{` `}` `[` `]` `,` `;` `.` `=` `<` `>` `+` `-` `*` `/` `%` `!`
abbrev pub short_sign : ℕ → Option ℕ
short_sign a =
    if a == 40 then Some 0
    else (if a == 41 then Some 1
    else (if a == 123 then Some 2
    else (if a == 125 then Some 3
    else (if a == 91 then Some 4
    else (if a == 93 then Some 5
    else (if a == 44 then Some 6
    else (if a == 59 then Some 7
    else (if a == 46 then Some 8
    else (if a == 61 then Some 10
    else (if a == 60 then Some 13
    else (if a == 62 then Some 15
    else (if a == 43 then Some 17
    else (if a == 45 then Some 18
    else (if a == 42 then Some 19
    else (if a == 47 then Some 20
    else (if a == 37 then Some 21
    else (if a == 33 then Some 24 else None)))))))))))))))))

-- `//` or `/*`
abbrev pub begins_comment : ℕ → ℕ → Bool
begins_comment a b = a == 47 && (b == 47 || b == 42)

-- the first byte isn't a sign by itself: with the next it is a longer one, or begins a comment
abbrev pub goes_on : ℕ → ℕ → Bool
goes_on a b = is_some (long_sign a b) || begins_comment a b

-- the signs in order, each with its bytes and what it is to the grammar
abbrev pub sign_table : List (List ℕ × TokenKind)
sign_table = (codes "(", k.Open) ∷ (codes ")", k.Close) ∷ (codes "{", k.OpenBrace) ∷ (codes "}", k.CloseBrace)
    ∷ (codes "[", k.OpenBracket) ∷ (codes "]", k.CloseBracket) ∷ (codes ",", k.Comma) ∷ (codes ";", k.Semicolon)
    ∷ (codes ".", k.Dot) ∷ (codes "..", k.Dots) ∷ (codes "=", k.Assign) ∷ (codes "==", k.Equal) ∷ (codes "!=", k.Unequal)
    ∷ (codes "<", k.Less) ∷ (codes "<=", k.LessOrEqual) ∷ (codes ">", k.Greater) ∷ (codes ">=", k.GreaterOrEqual)
    ∷ (codes "+", k.Plus) ∷ (codes "-", k.Minus) ∷ (codes "*", k.Times) ∷ (codes "/", k.Over) ∷ (codes "%", k.Modulo)
    ∷ (codes "&&", k.And) ∷ (codes "||", k.Or) ∷ (codes "!", k.Not) ∷ []

-- the keywords
abbrev pub keyword_table : List (List ℕ × TokenKind)
keyword_table = (codes "transform", k.Transform) ∷ (codes "from", k.From) ∷ (codes "through", k.Through) ∷ (codes "to", k.To)
    ∷ (codes "where", k.Where) ∷ (codes "primary", k.Primary) ∷ (codes "secondary", k.Secondary) ∷ (codes "priority", k.Priority)
    ∷ (codes "let", k.Let) ∷ (codes "if", k.If) ∷ (codes "else", k.Else) ∷ (codes "for", k.For) ∷ []

abbrev pub signs : List (List ℕ)
signs = map (λ (row : List ℕ × TokenKind). row.0) sign_table

-- the place of a sign, by its bytes
abbrev pub sign_place : List ℕ → Option ℕ
sign_place [] = None
sign_place (a ∷ []) = short_sign a
sign_place (a ∷ b ∷ []) = long_sign a b
sign_place (a ∷ b ∷ c ∷ _) = None

-- the numbers from 0 to 24
abbrev pub places : List ℕ
places = 0 ∷ 1 ∷ 2 ∷ 3 ∷ 4 ∷ 5 ∷ 6 ∷ 7 ∷ 8 ∷ 9 ∷ 10 ∷ 11 ∷ 12 ∷ 13 ∷ 14 ∷ 15 ∷ 16 ∷ 17 ∷ 18 ∷ 19 ∷ 20 ∷ 21 ∷ 22 ∷ 23 ∷ 24 ∷ []
