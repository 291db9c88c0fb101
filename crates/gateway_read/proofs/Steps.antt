-- A step of a reading that fails: what comes after it is not read.
use Rattle.std.proofs.Common.{◌≡◌, Bool, true, false, Result, Ok, Err, ap}
use Rattle.std.specs.Prelude.{IsErrAnd}
use Rattle.kv_model.specs.Requests.{Read, ◌>>=◌}
use Rattle.gateway_read.specs.declared.bad.Bad.{Bad}
use Rattle.gateway_read.specs.declared.bad.Bad.TheVariants.{NotJson, BadField, BadBase64, NoPath, TooLong, Memory}
use Rattle.gateway_read.specs.Reading.{Fails, Gives, GivesBy, IsOther, Tells}

pub fails_then : {A B : Type 0} (e : Bad) (m : Read A) (f : A → Read B) → Fails e m → Fails e (m >>= f)
fails_then NotJson m f h = ap (λ m. m >>= f) h
fails_then (BadField x) m f h = ap (λ m. m >>= f) h
fails_then (BadBase64 x) m f h = ap (λ m. m >>= f) h
fails_then NoPath m f h = ap (λ m. m >>= f) h
fails_then TooLong m f h = ap (λ m. m >>= f) h
fails_then Memory m f h = tt

-- a result that is this refusal gives the model's fault
pub gives_fault : {X Y : Type 0} (view : X → Y) (r : Result X Bad) (e : Bad) (m : Read Y) → IsErrAnd r (λ f. f ≡ e) → Fails e m
    → Gives view r m
gives_fault view (Ok x) e m is h = absurd is
gives_fault view (Err f) e m is h = rw is h

-- and so it is where no memory is taken
pub tells_fault : {X Y : Type 0} (view : X → Y) (r : Result X Bad) (e : Bad) (m : Read Y) → IsErrAnd r (λ f. f ≡ e) → Fails e m × IsOther e
    → Tells view r m
tells_fault view (Ok x) e m is h = absurd is
tells_fault view (Err f) e m is h = rw is h

-- what never tells want of memory says all that it may
pub gives_by : {X Y : Type 0} (takes : Bool) (view : X → Y) (r : Result X Bad) (m : Read Y) → GivesBy takes view r m → Gives view r m
gives_by true view r m h = h
gives_by false view (Ok x) m h = h
gives_by false view (Err e) m h = h.0
