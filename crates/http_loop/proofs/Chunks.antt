-- The messages of a watch, one after the other.
use Rattle.std.proofs.Common.{◌≡◌, ℕ, ◌+◌, List, ◌++◌, Bool, true, Option, Result, Ok, Err, Vec, Global, sym, ◌∙◌, ap, subst, append_assoc}
use Rattle.http_reply.specs.declared.front.Front.{Front}
use Rattle.http_reply.specs.declared.front.Front.TheVariants as front
use Rattle.http_reply.specs.Replies.{chunk, last_chunk, stream_head}
use Rattle.http_loop.specs.declared.answering.Told.{Told}
use Rattle.http_loop.specs.declared.answering.Told.TheVariants as told
use Rattle.http_loop.specs.Answered.{AreMessages, IsStream, IsStreamOf, most_messages}
use Rattle.http_loop.specs.Texts.{Grows, IsSent, Writes}
use Rattle.http_loop.proofs.Texts.{by_both, by_none, seen_as}

-- some messages were told, and whatever the others are, k at most, they follow
abbrev pub Chunks : (S : Type 0) → (S → ℕ → Told → S → Type 0) → ℕ → ℕ → S → S → List ℕ → Type 0
Chunks S Tells n k s t out = (more : List ℕ) (u : S) (r : Result Bool Front) → AreMessages S Tells n k t more u r
    → AreMessages S Tells n most_messages s (out ++ more) u r

module _ (S : Type 0) (Tells : S → ℕ → Told → S → Type 0) (n : ℕ) (s : S) where
  pub none_yet : (c : Option (List ℕ)) → Grows c c (Chunks S Tells n most_messages s s)
  none_yet c = by_none c (Chunks S Tells n most_messages s s) (λ more u r m. m)

  module _ (a b c : Option (List ℕ)) (k : ℕ) (t : S) (g : Grows a b (Chunks S Tells n k s t)) where
    -- the rest
    ends_by : (u : S) (r : Result Bool Front) → Grows b c (λ out. AreMessages S Tells n k t out u r) → Grows a c (λ out. AreMessages S Tells n most_messages s out u r)
    ends_by u r = by_both a b c (Chunks S Tells n k s t) (λ out. AreMessages S Tells n k t out u r) (λ out. AreMessages S Tells n most_messages s out u r)
        (λ x y p q. p y u r q) g

    pub ends_spent : (r : Result Bool Front) → k ≡ 0 → Writes true last_chunk b c r → Grows a c (λ out. AreMessages S Tells n most_messages s out t r)
    ends_spent r e w = ends_by t r (seen_as b c (λ out. IsSent true last_chunk out r) (λ out. AreMessages S Tells n k t out t r)
        (λ x h. subst (λ (k : ℕ). AreMessages S Tells n k t x t r) (sym e) (AreMessages.spent h)) w)

  module _ (a b c : Option (List ℕ)) (k l : ℕ) (is : k ≡ 1 + l) (t v : S) (g : Grows a b (Chunks S Tells n k s t)) (x : Told) (tells : Tells t n x v) where
    -- with one delivery more
    by_one : (u : S) (r : Result Bool Front) → Grows b c (λ out. AreMessages S Tells n (1 + l) t out u r) → Grows a c (λ out. AreMessages S Tells n most_messages s out u r)
    by_one u r h = ends_by a b c k t g u r (subst (λ (k : ℕ). Grows b c (λ out. AreMessages S Tells n k t out u r)) (sym is) h)

    pub quiet : (r : Result Bool Front) → x ≡ told.End → Writes true last_chunk b c r → Grows a c (λ out. AreMessages S Tells n most_messages s out v r)
    quiet r e w = by_one v r (seen_as b c (λ out. IsSent true last_chunk out r) (λ out. AreMessages S Tells n (1 + l) t out v r)
        (λ y h. AreMessages.quiet l (subst (λ (x : Told). Tells t n x v) e tells) h) w)

    pub cut : (f : Front) (m : Vec ℕ Global) (text : List ℕ) → x ≡ told.Text m → text ≡ m.items → Writes true (chunk text) b c (Err f)
        → Grows a c (λ out. AreMessages S Tells n most_messages s out v (Err f))
    cut f m text e same w = by_one v (Err f) (seen_as b c (λ out. IsSent true (chunk text) out (Err f)) (λ out. AreMessages S Tells n (1 + l) t out v (Err f))
        (λ y h. AreMessages.cut l m (subst (λ (x : Told). Tells t n x v) e tells) (subst (λ (z : List ℕ). IsSent true (chunk z) y (Err f)) same h)) w)

    pub on : (d : Bool) (m : Vec ℕ Global) (text : List ℕ) → x ≡ told.Text m → text ≡ m.items → Writes true (chunk text) b c (Ok d)
        → Grows a c (Chunks S Tells n l s v)
    on d m text e same = by_both a b c (Chunks S Tells n k s t) (λ out. IsSent true (chunk text) out (Ok d)) (Chunks S Tells n l s v)
        (λ y z p q more u r h. subst (λ (o : List ℕ). AreMessages S Tells n most_messages s o u r)
        (ap (λ (z : List ℕ). y ++ (z ++ more)) (sym (q.1 ∙ ap chunk same)) ∙ sym (append_assoc y z more))
        (p (chunk m.items ++ more) u r (subst (λ (k : ℕ). AreMessages S Tells n k t (chunk m.items ++ more) u r) (sym is)
        (AreMessages.more l m (subst (λ (x : Told). Tells t n x v) e tells) h)))) g

  pub untold : (a b : Option (List ℕ)) (k l : ℕ) → k ≡ 1 + l → (t v : S) → Grows a b (Chunks S Tells n k s t) → (x : Told) → Tells t n x v → x ≡ told.Memory
      → Grows a b (λ out. AreMessages S Tells n most_messages s out v (Err front.Memory))
  untold a b k l is t v g x tells e = by_one a b b k l is t v g x tells v (Err front.Memory)
      (by_none b (λ out. AreMessages S Tells n (1 + l) t out v (Err front.Memory)) (AreMessages.untold l (subst (λ (x : Told). Tells t n x v) e tells)))

  pub away : (a b : Option (List ℕ)) (k l : ℕ) → k ≡ 1 + l → (t v : S) → Grows a b (Chunks S Tells n k s t) → (x : Told) → Tells t n x v → x ≡ told.Away
      → Grows a b (λ out. AreMessages S Tells n most_messages s out v (Ok true))
  away a b k l is t v g x tells e = by_one a b b k l is t v g x tells v (Ok true)
      (by_none b (λ out. AreMessages S Tells n (1 + l) t out v (Ok true)) (AreMessages.away l (subst (λ (x : Told). Tells t n x v) e tells)))

-- ---- a stream

module _ (S : Type 0) (Tells : S → ℕ → Told → S → Type 0) (n : ℕ) (created : List ℕ) (s : S) where
  pub head_cut : (c c' : Option (List ℕ)) (f : Front) → Writes true stream_head c c' (Err f) → Grows c c' (λ out. IsStream S Tells n created s out s (Err f))
  head_cut c c' f = seen_as c c' (λ out. IsSent true stream_head out (Err f)) (λ out. IsStream S Tells n created s out s (Err f)) (λ x h. IsStreamOf.headless h)

  module _ (a b : Option (List ℕ)) (x : Bool) (w : Writes true stream_head a b (Ok x)) where
    pub created_cut : (c : Option (List ℕ)) (f : Front) → Writes true (chunk created) b c (Err f) → Grows a c (λ out. IsStream S Tells n created s out s (Err f))
    created_cut c f = by_both a b c (λ out. IsSent true stream_head out (Ok x)) (λ out. IsSent true (chunk created) out (Err f))
        (λ out. IsStream S Tells n created s out s (Err f))
        (λ y z p q. subst (λ (y : List ℕ). IsStream S Tells n created s (y ++ z) s (Err f)) (sym p.1) (IsStreamOf.uncreated z q)) w

    pub streamed_whole : (c d : Option (List ℕ)) (t : S) (y : Bool) (r : Result Bool Front) → Writes true (chunk created) b c (Ok y)
        → Grows c d (λ out. AreMessages S Tells n most_messages s out t r) → Grows a d (λ out. IsStream S Tells n created s out t r)
    streamed_whole c d t y r v m = by_both a b d (λ out. IsSent true stream_head out (Ok x))
        (λ out. (z : List ℕ) × (out ≡ chunk created ++ z) × AreMessages S Tells n most_messages s z t r) (λ out. IsStream S Tells n created s out t r)
        (λ p q h k. subst (λ (p : List ℕ). IsStream S Tells n created s (p ++ q) t r) (sym h.1)
        (subst (λ (q : List ℕ). IsStream S Tells n created s (stream_head ++ q) t r) (sym k.1) (IsStreamOf.whole k.2))) w
        (by_both b c d (λ out. IsSent true (chunk created) out (Ok y)) (λ out. AreMessages S Tells n most_messages s out t r)
        (λ out. (z : List ℕ) × (out ≡ chunk created ++ z) × AreMessages S Tells n most_messages s z t r)
        (λ p q h k. (q, ap (λ (p : List ℕ). p ++ q) h.1, k)) v m)
