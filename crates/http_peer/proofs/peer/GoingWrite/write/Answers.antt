use Rattle.std.proofs.Common.{◌≡◌, arith, length}
use Rattle.std.proofs.lemmas.Bool.Decides.{nat_tests}
use Rattle.std.proofs.lemmas.List.{nil_from_length}
use Rattle.http_peer.proofs.Outs.{grows, rest_kept}
use Rattle.http_peer.proofs.peer.GoingWrite.write.Goals as goal

pub returns-clause-bytes : goal.returns-clause-bytes
returns-clause-bytes g c =
    let none : length c.args.self.now.unsent ≡ 0 = grind (arith, nat_tests) in
    grows _ _ _ _ _ _ (rest_kept _ _ _ _ _ _ _ (nil_from_length _ none) c.write_now-made.ensures.bytes c.keep_rest-2.ensures.ok c.keep_rest-2.ensures.err c.keep_rest-2.ensures.fault)
