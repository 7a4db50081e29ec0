-- Walking the entries of a container, one by one.
use Rattle.std.proofs.Common.{◌≡◌, ℕ, zero, suc, ◌+◌, ◌-◌, ◌^◌, ◌<◌, ◌≤◌, List, [], ◌∷◌, length, Option, Some, None, sym, refl, ap, ◌∙◌, arith}
use Rattle.std.proofs.lemmas.Bool.Decides.{nat_tests}
use Rattle.std.specs.List.{between}
use Rattle.tlv.specs.declared.header.Header.{Header}
use Rattle.tlv.specs.declared.entries.Entry.{Entry}
use Rattle.tlv.specs.Header.{read_header}
use Rattle.tlv.specs.Entries.{placed_at, entry_at, chained, entries_by, entries, Located}

-- A header that is read has two bytes or more.
pub sized_head : (xs : List ℕ) (h : Header) → read_header xs ≡ Some h → 2 ≤ h.size
sized_head xs h e = grind (arith, nat_tests)

-- An entry that was read lies in its container, and its header has two bytes or more.
pub entry_known : (bs : List ℕ) (at end : ℕ) (e : Entry) → entry_at bs at end ≡ Some e → Located bs at end e
unfolding entry_at
entry_known bs at end e p =
    record {
      placed = grind (arith, nat_tests);
      headed = grind (arith, nat_tests);
      valued = grind (arith, nat_tests);
      inside = grind (arith, nat_tests);
      whole = grind (arith, nat_tests);
    }

pub entry_there : (bs : List ℕ) (at end : ℕ) → end ≤ length bs → (h : Header) → Some h ≡ read_header (between at end bs) → at + h.size + h.len ≤ end
    → Some (placed_at at h) ≡ entry_at bs at end
unfolding entry_at
entry_there bs at end w h p k = grind (arith, nat_tests)

-- Steps enough for the container are enough.
chained_same : (f g : ℕ → List Entry) (bs : List ℕ) (at end : ℕ) → ((next : ℕ) → at + 2 ≤ next → next ≤ end → f next ≡ g next)
    → chained f (entry_at bs at end) ≡ chained g (entry_at bs at end)
chained_same f g bs at end h = grind (arith, entry_known)

-- where the container ends, nothing is left to read
pub entry_end : (bs : List ℕ) (at end : ℕ) → end ≤ at → entry_at bs at end ≡ None
entry_end bs at end h = grind (arith, entry_known)

ended : (n : ℕ) (bs : List ℕ) (at end : ℕ) → end ≤ at → entries_by n bs at end ≡ []
unfolding entries_by
ended zero bs at end h = refl
ended (suc n) bs at end h = ap (chained (λ next. entries_by n bs next end)) (entry_end bs at end h)

enough : (n m : ℕ) (bs : List ℕ) (at end : ℕ) → end ≤ at + n → end ≤ at + m → entries_by n bs at end ≡ entries_by m bs at end
unfolding entries_by
enough zero m bs at end p q = sym (ended m bs at end (omega arith))
enough (suc n) zero bs at end p q = ended (suc n) bs at end (omega arith)
enough (suc n) (suc m) bs at end p q =
    chained_same (λ next. entries_by n bs next end) (λ next. entries_by m bs next end) bs at end
    (λ next a b. enough n m bs next end (omega arith) (omega arith))

-- THE step: the entries from `at` on are the one at `at` and those behind it.
entries_step : (bs : List ℕ) (at end : ℕ) → entries bs at end ≡ chained (λ next. entries bs next end) (entry_at bs at end)
unfolding entries entries_by
entries_step bs at end =
    enough (end - at) (suc (end - at)) bs at end (omega arith) (omega arith)
    ∙ chained_same (λ next. entries_by (end - at) bs next end) (λ next. entries_by (end - next) bs next end) bs at end
    (λ next a b. enough (end - at) (end - next) bs next end (omega arith) (omega arith))

pub entries-more : (bs : List ℕ) (at end : ℕ) (e : Entry) → Some e ≡ entry_at bs at end → entries bs at end ≡ e ∷ entries bs e.to end
entries-more bs at end e p = entries_step bs at end ∙ ap (chained (λ next. entries bs next end)) (sym p)

pub entries_none : (bs : List ℕ) (at end : ℕ) → None ≡ entry_at bs at end → entries bs at end ≡ []
entries_none bs at end p = entries_step bs at end ∙ ap (chained (λ next. entries bs next end)) (sym p)

chained_few : (n : ℕ) (go : ℕ → List Entry) → ((next : ℕ) → length (go next) ≤ n) → (o : Option Entry) → length (chained go o) ≤ suc n
chained_few n go h None = omega arith
chained_few n go h (Some e) = omega (arith, h e.to)

by_few : (n : ℕ) (bs : List ℕ) (at end : ℕ) → length (entries_by n bs at end) ≤ n
unfolding entries_by
by_few zero bs at end = omega arith
by_few (suc n) bs at end = chained_few n (λ next. entries_by n bs next end) (λ next. by_few n bs next end) (entry_at bs at end)

-- no more of them than the container has bytes
entries_few : (bs : List ℕ) (at end : ℕ) → length (entries bs at end) ≤ end - at
unfolding entries
entries_few bs at end = by_few (end - at) bs at end

pub few_entries : (bs : List ℕ) (at end : ℕ) → end < 2 ^ 64 → length (entries bs at end) < 2 ^ 64
few_entries bs at end h = omega (arith, entries_few bs at end)

-- what one call of `next` finds
pub ruleset walking = (entries-more, entries_none)
