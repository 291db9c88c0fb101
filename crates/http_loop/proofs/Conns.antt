-- A connection by one turn more.
use Rattle.std.proofs.Common.{◌≡◌, ◌≤◌, ◌<◌, ◌⊎◌, inl, inr, ℕ, ◌+◌, ◌-◌, arith, List, [], ◌++◌, Bool, Option, None, Some, Result, Ok, Err, refl, sym, ◌∙◌, ap, subst, append_assoc}
use Rattle.std.specs.Prelude.{⊤}
use Rattle.std.proofs.lemmas.List.{append-nil}
use Rattle.http_head.specs.Requests.{Asked}
use Rattle.http_reply.specs.declared.front.Front.{Front}
use Rattle.http_reply.specs.declared.front.Front.TheVariants as front
use Rattle.http_loop.specs.declared.writing.Turn.{Turn}
use Rattle.http_loop.specs.declared.writing.Turn.TheVariants as turn
use Rattle.http_loop.specs.Answered.{Conn}
use Rattle.http_loop.specs.Stepped.{ReadsOn}
use Rattle.http_loop.specs.Texts.{Grows, replies_more}
use Rattle.http_loop.specs.Turned.{Begins, Gave, MayHaveAfter, NotBegun, Serves, SoFar, progress}
use Rattle.http_loop.proofs.Runs.{Ends, Turned, Turns}
use Rattle.http_loop.proofs.Texts.{by_both, by_none, seen_as, wrote_none}

-- ---- numbers of replies

pub no_more : (r : Result ℕ Front) → r ≡ replies_more 0 r
no_more (Ok m) = ap Ok (omega arith)
no_more (Err f) = refl

pub more_twice : (n m : ℕ) (r : Result ℕ Front) → replies_more n (replies_more m r) ≡ replies_more (n + m) r
more_twice n m (Ok k) = ap Ok (omega arith)
more_twice n m (Err f) = refl

-- ---- the bytes of a reader

-- what it still has, where it tells that, and else nothing
abbrev pub rest_of : Option (List ℕ) → List ℕ
rest_of None = []
rest_of (Some xs) = xs

-- behind a turn that others follow
abbrev MayHave : Option (List ℕ) → List ℕ → Type 0
MayHave a = MayHaveAfter a (Ok turn.More)

may_rest : (a : Option (List ℕ)) → MayHave a (rest_of a)
may_rest None = tt
may_rest (Some xs) = refl

pub may_end : (a : Option (List ℕ)) (r : Result Turn Front) → MayHaveAfter a r (rest_of a)
may_end (Some xs) r = refl
may_end None (Ok turn.More) = tt
may_end None (Ok turn.Last) = refl
may_end None (Ok turn.End) = refl
may_end None (Err f) = refl

may_more : (a b : Option (List ℕ)) (came later : List ℕ) → Gave a came b → MayHave b later → MayHave a (came ++ later)
may_more None b came later g m = tt
may_more (Some xs) None came later g m = absurd g
may_more (Some xs) (Some ys) came later g m = ap (λ l. came ++ l) m ∙ sym g

pub gave_none : (a : Option (List ℕ)) → Gave a [] a
gave_none None = tt
gave_none (Some xs) = refl

gave_more : (a b c : Option (List ℕ)) (x y : List ℕ) → Gave a x b → Gave b y c → Gave a (x ++ y) c
gave_more None b c x y g h = tt
gave_more (Some xs) None c x y g h = absurd g
gave_more (Some xs) (Some ys) None x y g h = absurd h
gave_more (Some xs) (Some ys) (Some zs) x y g h = g ∙ ap (λ l. x ++ l) h ∙ sym (append_assoc x y zs)

-- these are all, where it tells them
abbrev GaveAll : Option (List ℕ) → List ℕ → Type 0
GaveAll None ys = ⊤
GaveAll (Some xs) ys = ys ≡ xs

gave_all : (a b : Option (List ℕ)) (came : List ℕ) → Gave a came b → GaveAll a (came ++ rest_of b)
gave_all None b came g = tt
gave_all (Some xs) None came g = absurd g
gave_all (Some xs) (Some ys) came g = sym g

gave_all_more : (a b c : Option (List ℕ)) (x y : List ℕ) → Gave a x b → Gave b y c → GaveAll a (x ++ (y ++ rest_of c))
gave_all_more None b c x y g h = tt
gave_all_more (Some xs) None c x y g h = absurd g
gave_all_more (Some xs) (Some ys) c x y g h = ap (λ l. x ++ l) (gave_all (Some ys) c y h) ∙ sym g

module _ (S : Type 0) (Is : S → Asked → List ℕ → S → Result Bool Front → Type 0) where
  -- the same connection, by other names of its limit, what is written and its end
  named : (s : S) (bytes : List ℕ) (u : S) (l l' : ℕ) (o o' : List ℕ) (r r' : Result ℕ Front) → l ≡ l' → o ≡ o' → r ≡ r' → Conn S Is s bytes l o u r
      → Conn S Is s bytes l' o' u r'
  named s bytes u l l' o o' r r' e f g h = subst (λ (x : Result ℕ Front). Conn S Is s bytes l' o' u x) g (subst (λ (x : List ℕ). Conn S Is s bytes l' x u r) f
      (subst (λ (x : ℕ). Conn S Is s bytes x o u r) e h))

  -- ---- runs of turns

  pub begins_none : (s : S) (bytes : List ℕ) → Begins S Is s bytes 0 bytes s []
  begins_none s bytes k more u r x = named s bytes u k (0 + k) more more r (replies_more 0 r) (omega arith) refl (no_more r) x

  module _ (s : S) (bytes left : List ℕ) (n : ℕ) (t : S) (x : List ℕ) (g : Begins S Is s bytes n left t x) where
    begins_on : (later : List ℕ) (u : S) (y : List ℕ) → Begins S Is t left 1 later u y → Begins S Is s bytes (n + 1) later u (x ++ y)
    begins_on later u y h k more v r z =
        named s bytes v (n + (1 + k)) ((n + 1) + k) (x ++ (y ++ more)) ((x ++ y) ++ more) (replies_more n (replies_more 1 r)) (replies_more (n + 1) r)
        (omega arith) (sym (append_assoc x y more)) (more_twice n 1 r) (g (1 + k) (y ++ more) v (replies_more 1 r) (h k more v r z))

    ends_with : (most : ℕ) (u : S) (r r' : Result ℕ Front) (y : List ℕ) → n < most → replies_more n r ≡ r' → Ends S Is t left u r y
        → Conn S Is s bytes most (x ++ y) u r'
    ends_with most u r r' y l e h = named s bytes u (n + (1 + (most - n - 1))) most (x ++ y) (x ++ y) (replies_more n r) r' (omega (arith, l)) refl e
        (g (1 + (most - n - 1)) y u r (h (most - n - 1)))

    ends_here : (most : ℕ) → n ≡ most → Conn S Is s bytes most x t (Ok n)
    ends_here most e = named s bytes t (n + 0) most (x ++ []) x (Ok (n + 0)) (Ok n) (omega (arith, e)) (append-nil x) (ap Ok (omega arith))
        (g 0 [] t (Ok 0) Conn.at_limit)

  -- ---- the same, by what the reader gives

  pub start : (a c : Option (List ℕ)) (s : S) (p : List ℕ) → SoFar S Is 0 (progress s a p c) (progress s a p c)
  start a c s p = record {
    came = [];
    gave = gave_none a;
    begun = by_none c (λ out. (later : List ℕ) → MayHave a later → Begins S Is s (p ++ later) 0 (p ++ later) s out) (λ later m. begins_none s (p ++ later));
  }

  module _ (a b : Option (List ℕ)) (p q : List ℕ) (n : ℕ) (c c' : Option (List ℕ)) (s t : S) (f : SoFar S Is n (progress s a p c) (progress t b q c')) where
    -- as far as it is known, the whole is what came and these
    over : (most : ℕ) (c'' : Option (List ℕ)) (u : S) (r : Result ℕ Front) (later : List ℕ) → GaveAll a (f.came ++ later)
        → Grows c c'' (λ out. Conn S Is s (p ++ (f.came ++ later)) most out u r) → Serves S Is most (progress s a p c) c'' u r
    over most c'' u r later e g = by a e
      where
        by : (a : Option (List ℕ)) → GaveAll a (f.came ++ later) → Serves S Is most (progress s a p c) c'' u r
        by None e = (f.came ++ later, g)
        by (Some xs) e = subst (λ (ys : List ℕ). Grows c c'' (λ out. Conn S Is s (p ++ ys) most out u r)) e g

    pub at_limit : (most : ℕ) → n ≤ most → most ≤ n → Serves S Is most (progress s a p c) c' t (Ok n)
    at_limit most l m = over most c' t (Ok n) (rest_of b) (gave_all a b f.came f.gave)
        (seen_as c c' (λ out. (later : List ℕ) → MayHave b later → Begins S Is s (p ++ (f.came ++ later)) n (q ++ later) t out)
        (λ out. Conn S Is s (p ++ (f.came ++ rest_of b)) most out t (Ok n))
        (λ x h. ends_here s (p ++ (f.came ++ rest_of b)) (q ++ rest_of b) n t x (h (rest_of b) (may_rest b)) most (omega (arith, l, m))) f.begun)

    -- more bytes were read, and no request was there whole
    pub reads_on : (d : Option (List ℕ)) (o : List ℕ) (c'' : Option (List ℕ)) (u : S) → ReadsOn S (progress t b q c') (progress u d o c'')
        → SoFar S Is n (progress s a p c) (progress u d o c'')
    reads_on d o c'' u k = record {
      came = f.came ++ k.came;
      gave = gave_more a b d f.came k.came f.gave k.gave;
      begun = by_both c c' c'' (λ out. (later : List ℕ) → MayHave b later → Begins S Is s (p ++ (f.came ++ later)) n (q ++ later) t out)
          (λ out. out ≡ [])
          (λ out. (later : List ℕ) → MayHave d later → Begins S Is s (p ++ ((f.came ++ k.came) ++ later)) n (o ++ later) u out)
          (λ x y h e later m. subst (λ (out : List ℕ). Begins S Is s (p ++ ((f.came ++ k.came) ++ later)) n (o ++ later) u out) (sym (ap (λ y. x ++ y) e ∙ append-nil x))
          (subst (λ (u : S). Begins S Is s (p ++ ((f.came ++ k.came) ++ later)) n (o ++ later) u x) (sym k.state)
          (subst (λ (rest : List ℕ). Begins S Is s (p ++ ((f.came ++ k.came) ++ later)) n rest t x) (sym (append_assoc q k.came later) ∙ ap (λ l. l ++ later) (sym k.pending))
          (subst (λ (bytes : List ℕ). Begins S Is s (p ++ bytes) n (q ++ (k.came ++ later)) t x) (sym (append_assoc f.came k.came later))
          (h (k.came ++ later) (may_more b d k.came later k.gave m)))))) f.begun
          (record { out = []; wrote = k.quiet; are = refl });
    }

    module _ (d : Option (List ℕ)) (o : List ℕ) (c'' : Option (List ℕ)) (u : S) where
      -- one turn more
      pub on : (x : Turn) → x ≡ turn.More → Turns S Is (progress t b q c') (progress u d o c'') (Ok x) → SoFar S Is (n + 1) (progress s a p c) (progress u d o c'')
      on x e k = by (subst (λ (x : Turn). Turns S Is (progress t b q c') (progress u d o c'') (Ok x)) e k)
        where
          by : Turns S Is (progress t b q c') (progress u d o c'') (Ok turn.More) → SoFar S Is (n + 1) (progress s a p c) (progress u d o c'')
          by k = record {
            came = f.came ++ k.came;
            gave = gave_more a b d f.came k.came f.gave k.gave;
            begun = by_both c c' c'' (λ out. (later : List ℕ) → MayHave b later → Begins S Is s (p ++ (f.came ++ later)) n (q ++ later) t out)
                (λ out. (later : List ℕ) → MayHaveAfter d (Ok turn.More) later → Begins S Is t (q ++ (k.came ++ later)) 1 (o ++ later) u out)
                (λ out. (later : List ℕ) → MayHave d later → Begins S Is s (p ++ ((f.came ++ k.came) ++ later)) (n + 1) (o ++ later) u out)
                (λ x y h i later m. subst (λ (bytes : List ℕ). Begins S Is s (p ++ bytes) (n + 1) (o ++ later) u (x ++ y)) (sym (append_assoc f.came k.came later))
                (begins_on s (p ++ (f.came ++ (k.came ++ later))) (q ++ (k.came ++ later)) n t x (h (k.came ++ later) (may_more b d k.came later k.gave m))
                (o ++ later) u y (i later m))) f.begun k.turned;
          }

      -- a turn that ends it
      stop : (most : ℕ) (x : Result Turn Front) (r r' : Result ℕ Front) → n < most → replies_more n r ≡ r'
          → ((bytes left : List ℕ) (y : List ℕ) → Turned S Is t bytes left u x y → Ends S Is t bytes u r y)
          → Turns S Is (progress t b q c') (progress u d o c'') x → Serves S Is most (progress s a p c) c'' u r'
      stop most x r r' l e is k =
          let later = rest_of d in
          let may = may_more b d k.came later k.gave (may_rest d) in
          over most c'' u r' (k.came ++ later) (gave_all_more a b d f.came k.came f.gave k.gave)
          (by_both c c' c'' (λ out. (later : List ℕ) → MayHave b later → Begins S Is s (p ++ (f.came ++ later)) n (q ++ later) t out)
          (λ out. (later : List ℕ) → MayHaveAfter d x later → Turned S Is t (q ++ (k.came ++ later)) (o ++ later) u x out)
          (λ out. Conn S Is s (p ++ (f.came ++ (k.came ++ later))) most out u r')
          (λ y z h i. ends_with s (p ++ (f.came ++ (k.came ++ later))) (q ++ (k.came ++ later)) n t y (h (k.came ++ later) may) most u r r' z l e
          (is (q ++ (k.came ++ later)) (o ++ later) z (i later (may_end d x)))) f.begun k.turned)

      pub last : (most : ℕ) (x : Turn) → x ≡ turn.Last → n < most → Turns S Is (progress t b q c') (progress u d o c'') (Ok x) → Serves S Is most (progress s a p c) c'' u (Ok (n + 1))
      last most x e l = stop most (Ok x) (Ok 1) (Ok (n + 1)) l refl (λ bytes left y h. subst (λ (x : Turn). Turned S Is t bytes left u (Ok x) y) e h)

      pub end : (most : ℕ) (x : Turn) → x ≡ turn.End → n < most → Turns S Is (progress t b q c') (progress u d o c'') (Ok x) → Serves S Is most (progress s a p c) c'' u (Ok n)
      end most x e l = stop most (Ok x) (Ok 0) (Ok n) l (ap Ok (omega arith)) (λ bytes left y h. subst (λ (x : Turn). Turned S Is t bytes left u (Ok x) y) e h)

      pub failed : (most : ℕ) (x : Front) → n < most → Turns S Is (progress t b q c') (progress u d o c'') (Err x) → Serves S Is most (progress s a p c) c'' u (Err x)
      failed most x l = stop most (Err x) (Err x) (Err x) l refl (λ bytes left y h. h)

  -- ---- the buffers

  pub begun : (X : Type 0) (a : Option (List ℕ)) (p : List ℕ) (most : ℕ) (c c' : Option (List ℕ)) (s t : S) (r : Result ℕ Front)
      → p ≡ [] → Serves S Is most (progress s a p c) c' t r → X ⊎ Serves S Is most (progress s a [] c) c' t r
  begun X a p most c c' s t r e h = inr (subst (λ (p : List ℕ). Serves S Is most (progress s a p c) c' t r) e h)

pub not_begun : (X S : Type 0) (s : S) (c : Option (List ℕ)) → NotBegun s s c c (Err front.Memory) ⊎ X
not_begun X S s c = inl (record { memory = refl; same = refl; wrote = wrote_none c })
