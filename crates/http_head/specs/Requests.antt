-- What the bytes of a connection are as requests (RFC 9112).
use Rattle.std.specs.Prelude.{◌≡◌, ◌≢◌, ℕ, ◌<◌, ◌≤◌, ◌⊎◌, List, [], ◌∷◌, ◌++◌, length, Bool, false, ◌==◌, if◌then◌else◌}
use Rattle.std.specs.Prelude.{Ok}
use Rattle.httparse.specs.Grammar.{RequestHead, HasNoRequest, MayBecomeRequest, print_request}
use Rattle.http_head.specs.Heads.{ReadsHead, body_length, marks_of, most_head}

-- a whole request, as far as an answer depends on it
pub record Asked : Type 0 where
  pub method : List ℕ
  pub target : List ℕ
  pub body : List ℕ
  pub close : Bool

-- the bytes begin with the request's head, and after stands behind that
pub record IsHeadOf (bytes : List ℕ) (a : Asked) (h : RequestHead) (after : List ℕ) : Type 0 where
  pub reads : ReadsHead bytes h after
  pub fits : length (print_request h) ≤ most_head
  pub method : a.method ≡ h.method
  pub target : a.target ≡ h.target
  pub close : a.close ≡ (marks_of h.fields).close

-- the bytes are that request, and then rest
abbrev pub ReadsAsked : List ℕ → Asked → List ℕ → Type 0
ReadsAsked bytes a rest =
    (h : RequestHead) × (after : List ℕ) × IsHeadOf bytes a h after
    × (body_length (marks_of h.fields) ≡ Ok (length a.body)) × (after ≡ a.body ++ rest)

-- the bytes end inside a head
abbrev pub EndsInHead : List ℕ → Type 0
EndsInHead bytes = (bytes ≢ []) × (length bytes < most_head) × HasNoRequest bytes × MayBecomeRequest bytes

-- the bytes end inside a body, of n bytes
abbrev pub EndsInBody : List ℕ → Type 0
EndsInBody bytes = (a : Asked) × (h : RequestHead) × (after : List ℕ) × (n : ℕ) × IsHeadOf bytes a h after
    × (body_length (marks_of h.fields) ≡ Ok n) × (length after < n)

-- the bytes end later in a request than before its first byte
abbrev pub IsCut : List ℕ → Type 0
IsCut bytes = EndsInHead bytes ⊎ EndsInBody bytes

-- the target up to a `?`
abbrev pub path_of : List ℕ → List ℕ
path_of [] = []
path_of (b ∷ bs) = if b == 63 then [] else b ∷ path_of bs
