-- What one page tells of all pages before it, and of all behind it.
use Rattle.std.proofs.Common.{◌≡◌, zero, suc, ◌+◌, List, [], ◌∷◌, ◌++◌, length, true, false, cond}
use Rattle.std.proofs.Common.{sym, ◌∙◌, ap, subst, arith}
use Rattle.std.proofs.lemmas.Grind.{flat_map-append}
use Rattle.std.specs.List.{AllByRecursion}
use Rattle.store_laws.proofs.Rising.{newest-cons}
use Rattle.kv_model.specs.declared.version.Rev.{Rev}
use Rattle.version_table.specs.Rising.{IsRising}
use Rattle.version_table.specs.Paged.{Places, HaveVersions, ends_past, past_or_none, flat, is_past, pages_before, versions_in}
use Rattle.version_table.proofs.PageLookups.{parted, past-partitioned}

-- ---- both parts of pages

pub rising-parts : (xs ys : List Places) → IsRising (flat (xs ++ ys)) → IsRising (flat xs) × IsRising (flat ys)
rising-parts xs ys r = let p = parted (flat xs) (flat ys) (subst IsRising (flat_map-append versions_in xs ys) r) in (p.front, p.back)

pub held-parts : (xs ys : List Places) → HaveVersions (xs ++ ys) → HaveVersions xs × HaveVersions ys
held-parts [] ys h = (tt, h)
held-parts (x ∷ xs) ys h = let rest = held-parts xs ys h.1 in ((h.0, rest.0), rest.1)

-- ---- where the last page is past

all-past : (p : Rev) (xs : List Places) → IsRising (flat xs) → HaveVersions xs → ends_past p xs ≡ true
    → AllByRecursion (λ (q : Places). is_past p q ≡ true) xs
all-past p [] r h e = tt
all-past p (x ∷ []) r h e = (e, tt)
all-past p (x ∷ y ∷ zs) r h e =
    let rest = all-past p (y ∷ zs) (parted x.versions (flat (y ∷ zs)) r).back h.1 (ap (past_or_none p) (newest-cons x y zs) ∙ e) in
    (past-partitioned p (x ∷ y ∷ zs) r h 0 1 x (omega arith) (omega arith) rest.0, rest)

count-all : (p : Rev) (xs ys : List Places) → AllByRecursion (λ (q : Places). is_past p q ≡ true) xs
    → pages_before p (xs ++ ys) ≡ length xs + pages_before p ys
count-all p [] ys h = omega arith
count-all p (x ∷ xs) ys h =
    let rest = count-all p xs ys h.1 in
    let more : suc (pages_before p (xs ++ ys)) ≡ suc (length xs) + pages_before p ys = omega arith in
    ap (λ b. cond b (suc (pages_before p (xs ++ ys))) zero) h.0 ∙ more

pub past-front : (p : Rev) (xs ys : List Places) → IsRising (flat xs) → HaveVersions xs → ends_past p xs ≡ true
    → pages_before p (xs ++ ys) ≡ length xs + pages_before p ys
past-front p xs ys r h e = count-all p xs ys (all-past p xs r h e)

-- ---- where it is not

pub past-back : (p : Rev) (xs ys : List Places) → ends_past p xs ≡ false → pages_before p (xs ++ ys) ≡ pages_before p xs
past-back p [] ys e = cc
past-back p (x ∷ []) ys e =
    ap (λ b. cond b (suc (pages_before p ys)) zero) e ∙ sym (ap (λ b. cond b (suc (pages_before p [])) zero) e)
past-back p (x ∷ y ∷ zs) ys e =
    ap (λ n. cond (is_past p x) (suc n) zero) (past-back p (y ∷ zs) ys (ap (past_or_none p) (newest-cons x y zs) ∙ e))
