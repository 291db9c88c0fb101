-- Watches take note of a revision part by part: up to the last part as if its revision were the one before.
use Rattle.std.proofs.Common.{◌≡◌, ℕ, ◌+◌, ℤ, List, [], ◌∷◌, ◌++◌, map, filter, Bool, true, false, ◌&&◌, cond, nat_lt, nat_le}
use Rattle.std.proofs.Common.{Option, None, Some, refl, sym, ◌∙◌, ap, arith, eqb-true}
use Rattle.std.specs.Option.{option_or}
use Rattle.std.specs.List.{AllByRecursion}
use Rattle.std.proofs.lemmas.Bool.Decides.{nat_tests}
use Rattle.std.proofs.lemmas.List.Elements.{filter-append}
use Rattle.kv_model.specs.declared.version.Version.{Version}
use Rattle.kv_model.specs.declared.call.Watched.{Watched}
use Rattle.kv_model.specs.Watches.{matches}
use Rattle.store_laws.specs.Stands.{Tracked, ahead_of, noted, first_main_of, is_reached, still_ahead}
use Rattle.range_view.specs.Stored.{AreOf}
use Rattle.watch_hub.proofs.Noted.{held}

-- ---- what a watch waits for

ahead-now : (now m : ℕ) (a : Option ℕ) → m + 1 ≡ now → still_ahead now (still_ahead m a) ≡ still_ahead now a
ahead-now now m None e = refl
ahead-now now m (Some n) e = by (nat_lt (m + 1) n) refl
  where
    by : (b : Bool) → nat_lt (m + 1) n ≡ b → still_ahead now (cond b (Some n) None) ≡ ahead_of now n
    by true h = refl
    by false h =
        let far : nat_lt (now + 1) n ≡ false = grind (arith, nat_tests) in
        sym (ap (λ c. cond c (Some n) None) far)

reached-part : (now m : ℕ) (a : Option ℕ) (main : ℕ) → m + 1 ≡ now → main ≡ now → is_reached (still_ahead m a) main ≡ is_reached a main
reached-part now m None main e f = refl
reached-part now m (Some n) main e f = by (nat_lt (m + 1) n) refl
  where
    by : (b : Bool) → nat_lt (m + 1) n ≡ b → is_reached (cond b (Some n) None) main ≡ nat_le n main
    by true h = refl
    by false h = let near : nat_le n main ≡ true = grind (arith, nat_tests) in sym near

reached-same : (now m : ℕ) (a : Option ℕ) (w : Watched) (vs : List Version) → m + 1 ≡ now → AreOf now vs
    → filter (λ v. is_reached (still_ahead m a) v.rev.main && matches w v) vs ≡ filter (λ v. is_reached a v.rev.main && matches w v) vs
reached-same now m a w [] e h = refl
reached-same now m a w (v ∷ vs) e h =
    let here : is_reached (still_ahead m a) v.rev.main ≡ is_reached a v.rev.main =
    reached-part now m a v.rev.main e (eqb-true v.rev.main now h.0) in
    λ i. cond (here i && matches w v) (v ∷ reached-same now m a w vs e h.1 i) (reached-same now m a w vs e h.1 i)

-- ---- what it notes

first-append : (xs ys : List Version) → option_or (first_main_of xs) (first_main_of ys) ≡ first_main_of (xs ++ ys)
first-append [] ys = refl
first-append (x ∷ xs) ys = refl

or-assoc : (a b c : Option ℕ) → option_or (option_or a b) c ≡ option_or a (option_or b c)
or-assoc None b c = refl
or-assoc (Some n) b c = refl

part-held : (now m : ℕ) (xs ys : List Version) (n : ℕ) (id : ℤ) (w : Watched) (late : Bool) (first ahead : Option ℕ) → m + 1 ≡ now
    → AreOf now ys
    → noted ys now (noted xs m (held n id w late first ahead)) ≡ noted (xs ++ ys) now (held n id w late first ahead)
part-held now m xs ys n id w true first ahead e h = refl
part-held now m xs ys n id w false first ahead e h = λ i. held n id w false (firsts i) (ahead-now now m ahead e i)
  where
    firsts : option_or (option_or first (first_main_of (filter (λ v. is_reached ahead v.rev.main && matches w v) xs)))
        (first_main_of (filter (λ v. is_reached (still_ahead m ahead) v.rev.main && matches w v) ys))
        ≡ option_or first (first_main_of (filter (λ v. is_reached ahead v.rev.main && matches w v) (xs ++ ys)))
    firsts =
        or-assoc first (first_main_of (filter (λ v. is_reached ahead v.rev.main && matches w v) xs)) _
        ∙ ap (λ us. option_or first
        (option_or (first_main_of (filter (λ v. is_reached ahead v.rev.main && matches w v) xs)) (first_main_of us)))
        (reached-same now m ahead w ys e h)
        ∙ ap (option_or first)
        (first-append (filter (λ v. is_reached ahead v.rev.main && matches w v) xs)
        (filter (λ v. is_reached ahead v.rev.main && matches w v) ys)
        ∙ ap first_main_of (sym (filter-append (λ (v : Version). is_reached ahead v.rev.main && matches w v) xs ys)))

part : (now m : ℕ) (xs ys : List Version) (t : Tracked) → m + 1 ≡ now → AreOf now ys → noted ys now (noted xs m t) ≡ noted (xs ++ ys) now t
part now m xs ys t e h = part-held now m xs ys t.number t.id t.watched t.late t.first t.ahead e h

pub parts : (now m : ℕ) (xs ys : List Version) (ts : List Tracked) → m + 1 ≡ now → AreOf now ys
    → map (noted ys now) (map (noted xs m) ts) ≡ map (noted (xs ++ ys) now) ts
parts now m xs ys [] e h = refl
parts now m xs ys (t ∷ ts) e h = λ i. part now m xs ys t e h i ∷ parts now m xs ys ts e h i

pub each-back : {X : Type 0} (P : X → Type 0) (xs ys : List X) → AllByRecursion P (xs ++ ys) → AllByRecursion P ys
each-back P [] ys h = h
each-back P (x ∷ xs) ys h = each-back P xs ys h.1
