use Rattle.std.proofs.Common.{refl, subst}
use Rattle.std.proofs.lemmas.Result.{on_ok_weaker, on_err_weaker}
use Rattle.lease_keys.specs.Holding.{ArePut, ArePartlyPut}
use Rattle.lease_keys.proofs.Holding.{put-partly}
use Rattle.request_core.proofs.store.appending.take_newest.Goals as goal

pub returns-in-Err-clause-err : goal.returns-in-Err-clause-err
returns-in-Err-clause-err g c =
    (subst (λ vs. ArePartlyPut vs c.args.keys.now c.add_all.new.self) c.deref.ensures.value c.in-Err.ensures.err, refl)

pub returns-clause-ok : goal.returns-clause-ok
returns-clause-ok g c =
    let put = subst (λ vs. ArePut vs c.args.keys.now c.add_all.new.self) c.deref.ensures.value c.in_default.ensures.ok in
    on_ok_weaker c.take.result (λ taken. put) c.take.ensures.ok

pub returns-clause-err : goal.returns-clause-err
returns-clause-err g c =
    let put = subst (λ vs. ArePut vs c.args.keys.now c.add_all.new.self) c.deref.ensures.value c.in_default.ensures.ok in
    on_err_weaker c.take.result (λ same. (put-partly c.args.versions.items c.args.keys.now c.add_all.new.self put, same)) c.take.ensures.err
