-- The index has the version that the table has, or both are as they were.
use Rattle.std.proofs.Common.{◌≡◌, ◌∙◌, ◌++◌, ◌∷◌, [], Some, ap}
use Rattle.std.proofs.lemmas.List.{append-nil}
use Rattle.kv_model.specs.declared.version.Version.{Version}
use Rattle.kv_model.specs.History.{without_rev}
use Rattle.store_laws.proofs.Rising.{rising-push}
use Rattle.version_table.specs.Rising.{rev_of}
use Rattle.version_table.proofs.Changes.{without_rev-middle}
use Rattle.key_index.proofs.Agrees.{push-agrees, behind-agrees}
use Rattle.range_view.proofs.growth.add.Goals as goal

pub put-requires : goal.put-requires
put-requires c = behind-agrees c.args.index.now c.args.table.now c.args.version.now.rev _ c.requires.tied.agrees c.requires.behind

pub returns-in-Ok-clause-ok : goal.returns-in-Ok-clause-ok
returns-in-Ok-clause-ok c = c.in_ok-push.ensures.ok ∙ ap (λ (v : Version). c.args.table.now ++ v ∷ []) c.in_ok-copy_of.ensures

pub returns-in-Ok-clause-tied : goal.returns-in-Ok-clause-tied
returns-in-Ok-clause-tied c =
    let v = c.args.version.now in
    let vs = c.args.table.now in
    let table = c.in_ok-push.ensures.ok ∙ ap (λ (v : Version). vs ++ v ∷ []) c.in_ok-copy_of.ensures in
    rw (c.in-Ok.ensures.ok, table) (record {
      rising = rising-push rev_of vs v c.requires.tied.rising c.requires.behind;
      agrees = push-agrees c.args.index.now vs v c.requires.tied.agrees;
    })

pub returns-in-Err-clause-tied : goal.returns-in-Err-clause-tied
returns-in-Err-clause-tied c =
    let v = c.args.version.now in
    let vs = c.args.table.now in
    let table = c.in_ok-push.ensures.ok ∙ ap (λ (v : Version). vs ++ v ∷ []) c.in_ok-copy_of.ensures in
    let rising = rising-push rev_of vs v c.requires.tied.rising c.requires.behind in
    let removed : c.remove.new.self ≡ vs = c.remove.ensures ∙ ap (without_rev (Some v.rev)) table ∙ without_rev-middle vs v [] rising ∙ append-nil vs in
    rw (c.in-Err.ensures.err, removed) c.requires.tied

pub returns-in-Err-clause-err : goal.returns-in-Err-clause-err
returns-in-Err-clause-err c =
    let v = c.args.version.now in
    let vs = c.args.table.now in
    let table = c.in_ok-push.ensures.ok ∙ ap (λ (v : Version). vs ++ v ∷ []) c.in_ok-copy_of.ensures in
    let rising = rising-push rev_of vs v c.requires.tied.rising c.requires.behind in
    c.remove.ensures ∙ ap (without_rev (Some v.rev)) table ∙ without_rev-middle vs v [] rising ∙ append-nil vs
