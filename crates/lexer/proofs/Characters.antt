-- Control characters, told by the bytes of a text.
use Rattle.std.proofs.Common.{◌≡◌, ℕ, ◌+◌, ◌/◌, ◌%◌, ◌<◌, ◌≤◌, ◌≢◌, ltb, Bool, true, false, ◌&&◌, List, [], ◌∷◌, ◌++◌, Decides, IsUtf8, refl, sym, ap, ◌∙◌, arith}
use Rattle.std.specs.Char.{encode_utf8}
use Rattle.std.specs.List.{list_all}
use Rattle.std.specs.Str.{chars, encode_utf8_all}
use Rattle.std.proofs.lemmas.Bool.{cond_both, ltb-true, ltb-false}
use Rattle.std.proofs.lemmas.Bool.Decides.{nat_tests}
use Rattle.std.proofs.lemmas.Str.{chars-encodes}
use Rattle.lexer.specs.Lines.{plain, plain_after, plain_from, Text}

ascii : (p c : ℕ) → c < 128 → plain_after p c ≡ plain c
ascii p c h = grind (arith, nat_tests)

high : (p b : ℕ) → 160 ≤ b → plain_after p b ≡ true
high p b h = grind (arith, nat_tests)

inner : (p n : ℕ) → p ≢ 194 → plain_after p (128 + n) ≡ true
inner p n h = grind (arith, nat_tests)

second : (c b d : ℕ) → 128 ≤ c → b ≡ 192 + c / 64 → d ≡ 128 + c % 64 → plain_after b d ≡ plain c
second c b d h e f = grind (arith, nat_tests)

far : (c : ℕ) → 160 ≤ c → true ≡ plain c
far c h = grind (arith, nat_tests)

-- what the bytes `bs` say of the character `c`, and the last of them
record Tells (p c : ℕ) (bs : List ℕ) : Type 0 where
  last : ℕ
  other : last ≢ 194
  says : (rest : List ℕ) → plain_from p (bs ++ rest) ≡ (plain c && plain_from last rest)

-- a byte, behind which those that follow tell
led : (p c b : ℕ) (bs : List ℕ) → plain_after p b ≡ true → Tells b c bs → Tells p c (b ∷ bs)
led p c b bs e t = record { last = t.last; other = t.other; says = λ rest. ap (λ x. x && plain_from b (bs ++ rest)) e ∙ t.says rest }

-- a byte that tells by itself
alone : (p c b : ℕ) → b ≢ 194 → plain_after p b ≡ plain c → Tells p c (b ∷ [])
alone p c b n e = record { last = b; other = n; says = λ rest. ap (λ x. x && plain_from b rest) e }

under : (c : ℕ) → 128 + c % 64 ≢ 194
under c = λ e. omega arith

over : (k n : ℕ) → 195 ≤ k → k + n ≢ 194
over k n h = λ e. omega arith

tells : (p c : ℕ) → p ≢ 194 → Tells p c (encode_utf8 c)
unfolding encode_utf8
tells p c n =
    cond_both (ltb c 128) (c ∷ []) _ (Tells p c) (λ e. alone p c c (λ z. omega (arith, ltb-true c 128 e)) (ascii p c (ltb-true c 128 e)))
    (λ e. cond_both (ltb c 2048) _ _ (Tells p c)
    (λ f. led p c _ _ (high p (192 + c / 64) (omega (arith, ltb-false c 128 e))) (alone _ c _ (under c) (second c _ _ (ltb-false c 128 e) refl refl)))
    (λ f. cond_both (ltb c 65536) _ _ (Tells p c)
    (λ g. led p c _ _ (high p (224 + c / 4096) (omega arith))
    (led _ c _ _ (inner (224 + c / 4096) ((c / 64) % 64) (over 224 (c / 4096) (omega arith)))
    (alone _ c _ (under c) (inner (128 + (c / 64) % 64) (c % 64) (under (c / 64)) ∙ far c (omega (arith, ltb-false c 2048 f))))))
    (λ g. led p c _ _ (high p (240 + c / 262144) (omega arith))
    (led _ c _ _ (inner (240 + c / 262144) ((c / 4096) % 64) (over 240 (c / 262144) (omega arith)))
    (led _ c _ _ (inner (128 + (c / 4096) % 64) ((c / 64) % 64) (under (c / 4096)))
    (alone _ c _ (under c) (inner (128 + (c / 64) % 64) (c % 64) (under (c / 64)) ∙ far c (omega (arith, ltb-false c 2048 f)))))))))

plain_text : (p : ℕ) (cs : List ℕ) → p ≢ 194 → plain_from p (encode_utf8_all cs) ≡ list_all plain cs
plain_text p [] n = refl
plain_text p (c ∷ cs) n = let t = tells p c n in t.says (encode_utf8_all cs) ∙ ap (λ b. plain c && b) (plain_text t.last cs t.other)

-- So the bytes of a text tell of its characters.
pub plain_told : (line : List ℕ) → IsUtf8 line → plain_from 0 line ≡ list_all plain (chars line)
plain_told line u =
    sym (ap (λ bs. list_all plain (chars bs)) (sym u.1.1) ∙ ap (list_all plain) (chars-encodes u.0 u.1.0) ∙ sym (plain_text 0 u.0 (λ z. omega arith)) ∙ ap (plain_from 0) u.1.1)

pub text_told : (line : List ℕ) (r : Bool) → IsUtf8 line → r ≡ list_all plain (chars line) → Decides r (Text line)
text_told line r u e = let s : r ≡ plain_from 0 line = e ∙ sym (plain_told line u) in ((λ t. (u, sym s ∙ t)), λ t. s ∙ t.1)

pub not_told : (line : List ℕ) → ¬ IsUtf8 line → Decides false (Text line)
not_told line u = ((λ e. absurd (cc)), λ t. absurd (u t.0))
