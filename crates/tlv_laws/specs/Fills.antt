-- What fills a container, without a word on how it is checked.
use Rattle.std.specs.Prelude.{◌≡◌, ℕ, ◌<◌, ◌≤◌, true, List, [], ◌++◌, length, Some, None, Ok, Err}
use Rattle.tlv.specs.declared.header.Kind.{Kind}
use Rattle.tlv.specs.declared.grammar.Container.{Container}
use Rattle.tlv.specs.declared.grammar.Container.TheVariants.{Payload}
use Rattle.tlv.specs.declared.fault.PayloadFault.TheVariants.{TooLong}
use Rattle.tlv.specs.Grammar.{allows, within, verdict}
use Rattle.tlv_laws.specs.Headers.{Heads}

-- THE GRAMMAR. A container is filled by entries that stand one behind the other: each has a header in any
-- form, of a kind that is allowed there, and then as many bytes as the header says. Where the kind holds
-- bytes they are any bytes (`leaf`); where it holds entries they fill the container that it is (`node`).
pub data Fills : Container → List ℕ → Type 0 where
  none : {c : Container} → Fills c []
  leaf : {c : Container} (k : Kind) (id : ℕ) (hd v : List ℕ) {rest : List ℕ}
      → allows c k ≡ true → within k ≡ None → Heads hd k id (length v)
      → Fills c rest → Fills c (hd ++ (v ++ rest))
  node : {c : Container} (k : Kind) (id : ℕ) (hd : List ℕ) (d : Container) {v rest : List ℕ}
      → allows c k ≡ true → within k ≡ Some d → Heads hd k id (length v)
      → Fills d v → Fills c rest → Fills c (hd ++ (v ++ rest))

-- Accepted are the payloads of the grammar with at most 4,096 bytes: all of them, and no others.
pub record Accepted (bs : List ℕ) : Type 0 where
  pub all : length bs ≤ 4096 → Fills Payload bs → verdict bs ≡ Ok tt
  pub short : verdict bs ≡ Ok tt → length bs ≤ 4096
  pub only : verdict bs ≡ Ok tt → Fills Payload bs
  -- more bytes are too long, whatever they are
  pub long : 4096 < length bs → verdict bs ≡ Err TooLong

abbrev pub AcceptsGrammar : Type 0
AcceptsGrammar = (bs : List ℕ) → Accepted bs
