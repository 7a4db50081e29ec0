-- The listing of entries, one by one.
use Rattle.std.proofs.Common.{◌≡◌, ℕ, zero, suc, ◌-◌, ◌<◌, cond, List, [], ◌∷◌, ◌++◌, refl, ap, ◌∙◌, append_assoc, append-nil, arith}
use Rattle.tlv.specs.declared.entries.Entry.{Entry}
use Rattle.tlv.specs.Entries.{entries}
use Rattle.session.specs.Listing.{entry_text, is_holder, listing}

pub listing_zero : (n : ℕ) (bs : List ℕ) (es : List Entry) → n ≡ 0 → listing n bs es ≡ []
unfolding listing
listing_zero zero bs es z = refl
listing_zero (suc n) bs es z = absurd (omega arith)

pub listing_none : (n : ℕ) (bs : List ℕ) → listing n bs [] ≡ []
unfolding listing
listing_none zero bs = refl
listing_none (suc n) bs = refl

-- the line of an entry, and then, where it holds entries, theirs
pub listing-more : (n : ℕ) (bs : List ℕ) (e : Entry) (es : List Entry) → 0 < n
    → listing n bs (e ∷ es)
    ≡ entry_text (3 - n) bs e ++ (cond (is_holder e) (listing (n - 1) bs (entries bs e.from e.to)) [] ++ listing n bs es)
unfolding listing
listing-more zero bs e es some = absurd (omega arith)
listing-more (suc n) bs e es some =
    let d : 2 - n ≡ 3 - suc n = omega arith in
    let m : n ≡ suc n - 1 = omega arith in
    append_assoc (entry_text (2 - n) bs e) (cond (is_holder e) (listing n bs (entries bs e.from e.to)) []) (listing (suc n) bs es)
    ∙ ap (λ (k : ℕ). entry_text k bs e ++ (cond (is_holder e) (listing n bs (entries bs e.from e.to)) [] ++ listing (suc n) bs es)) d
    ∙ ap (λ (k : ℕ). entry_text (3 - suc n) bs e ++ (cond (is_holder e) (listing k bs (entries bs e.from e.to)) [] ++ listing (suc n) bs es)) m

pub ruleset listings = (listing_zero, listing_none, listing-more, append-nil, append_assoc)
