-- What kinds of tokens say.
use Rattle.std.specs.Prelude.{Bool, true, false}
use Rattle.pb_syntax.specs.declared.kind.TokenKind.{TokenKind}
use Rattle.pb_syntax.specs.declared.kind.TokenKind.TheVariants as k

-- the tokens that an expression begins with
abbrev pub begins_expression : TokenKind → Bool
begins_expression k.Number = true
begins_expression k.Name = true
begins_expression k.Open = true
begins_expression k.Minus = true
begins_expression k.Not = true
begins_expression _ = false

-- the tokens that a statement begins with
abbrev pub begins_statement : TokenKind → Bool
begins_statement k.Let = true
begins_statement k.Name = true
begins_statement k.If = true
begins_statement k.For = true
begins_statement _ = false
