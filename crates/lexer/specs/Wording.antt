-- What people are told to have been expected.
use Rattle.std.specs.Prelude.{ℕ, List, codes}
use Rattle.lexer.specs.declared.fault.Expected.{Expected}
use Rattle.lexer.specs.declared.fault.Expected.TheVariants as expected

abbrev pub words_of : Expected → List ℕ
words_of expected.Text = codes "text expected, UTF-8 without control characters"
words_of expected.ShorterLine = codes "shorter line expected, up to 16384 bytes"
words_of expected.Step = codes "unknown step"
words_of expected.OnOrOff = codes "on or off expected"
words_of expected.Kind = codes "instance, element, multiple or resource expected"
words_of expected.Number = codes "number expected, 0 to 65535"
words_of expected.Length = codes "length expected, 0 to 4294967295"
words_of expected.Decimal = codes "signed number of 64 bits expected"
words_of expected.HexPair = codes "two hexadecimal digits expected"
words_of expected.Value = codes "number, text in quotes, or x and hexadecimal digits expected"
words_of expected.Colon = codes "colon expected"
words_of expected.ColonOrBracket = codes "colon or opening bracket [ expected"
words_of expected.OpeningBrace = codes "opening bracket { expected"
words_of expected.ClosingBracket = codes "closing bracket ] expected"
words_of expected.ClosingBrace = codes "closing bracket } expected"
words_of expected.ClosingQuote = codes "closing quote expected"
words_of expected.Blank = codes "blank expected"
words_of expected.End = codes "end of the line expected"
words_of expected.ShorterValue = codes "shorter value expected, up to 16777215 bytes"
