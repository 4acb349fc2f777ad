use Rattle.std.proofs.Common.{◌≡◌, List, Result, Ok, Err, OnOk}
use Rattle.bt_rows.specs.declared.tables.Change.{Change}
use Rattle.bt_rows.specs.declared.tables.Change.TheVariants as changes
use Rattle.keeper_store.specs.declared.edit.Edit.{Edit}
use Rattle.store_keeper.specs.Edits.{Extends}
use Rattle.store_keeper.proofs.OneEdit.{extends_put_pool, extends_put_node, extends_put_job, extends_put_task}
use Rattle.store_keeper.proofs.OneEdit.{extends_put_run, extends_put_prep, extends_put_sample, extends_put_scale}
use Rattle.store_keeper.proofs.OneEdit.{extends_drop_pool, extends_drop_node, extends_drop_job, extends_drop_run, extends_drop_scale}
use Rattle.store_keeper.proofs.edits.push_edits.Goals as goal

-- what was added is the change
on_ok : {T E P : Type 0} (result : Result T E) (change is : Change) (old new : List Edit) → change ≡ is → (P → Extends is old new) → OnOk result P
    → OnOk result (Extends change old new)
on_ok (Ok value) change is old new h extends added = rw h (extends added)
on_ok (Err e) change is old new h extends added = tt

pub returns-in-PutPool : goal.returns-in-PutPool
returns-in-PutPool c =
    let old = c.args.edits.now.items in
    let new = c.push_put.new.edits.items in
    on_ok c.push_put.result c.args.change.now (changes.PutPool c.in-PutPool.row) old new c.in-PutPool.is
    (extends_put_pool c.in-PutPool.row old new) c.push_put.ensures

pub returns-in-DropPool : goal.returns-in-DropPool
returns-in-DropPool c =
    let old = c.args.edits.now.items in
    let new = c.push_id_drop.new.edits.items in
    on_ok c.push_id_drop.result c.args.change.now (changes.DropPool c.in-DropPool.id) old new c.in-DropPool.is
    (extends_drop_pool c.in-DropPool.id old new) c.push_id_drop.ensures

pub returns-in-PutNode : goal.returns-in-PutNode
returns-in-PutNode c =
    let old = c.args.edits.now.items in
    let new = c.push_put-in-PutNode.new.edits.items in
    on_ok c.push_put-in-PutNode.result c.args.change.now (changes.PutNode c.in-PutNode.row) old new c.in-PutNode.is
    (extends_put_node c.in-PutNode.row old new) c.push_put-in-PutNode.ensures

pub returns-in-DropNode : goal.returns-in-DropNode
returns-in-DropNode c =
    let old = c.args.edits.now.items in
    let new = c.push_number_drop.new.edits.items in
    on_ok c.push_number_drop.result c.args.change.now (changes.DropNode c.in-DropNode.number) old new c.in-DropNode.is
    (extends_drop_node c.in-DropNode.number old new c.push_number_drop.ensures.known) c.push_number_drop.ensures.dropped

pub returns-in-PutJob : goal.returns-in-PutJob
returns-in-PutJob c =
    let old = c.args.edits.now.items in
    let new = c.push_put-in-PutJob.new.edits.items in
    on_ok c.push_put-in-PutJob.result c.args.change.now (changes.PutJob c.in-PutJob.row) old new c.in-PutJob.is
    (extends_put_job c.in-PutJob.row old new) c.push_put-in-PutJob.ensures

pub returns-in-DropJob : goal.returns-in-DropJob
returns-in-DropJob c =
    let old = c.args.edits.now.items in
    let new = c.push_id_drop-in-DropJob.new.edits.items in
    on_ok c.push_id_drop-in-DropJob.result c.args.change.now (changes.DropJob c.in-DropJob.id) old new c.in-DropJob.is
    (extends_drop_job c.in-DropJob.id old new) c.push_id_drop-in-DropJob.ensures

pub returns-in-PutTask : goal.returns-in-PutTask
returns-in-PutTask c =
    let old = c.args.edits.now.items in
    let new = c.push_put-in-PutTask.new.edits.items in
    on_ok c.push_put-in-PutTask.result c.args.change.now (changes.PutTask c.in-PutTask.row) old new c.in-PutTask.is
    (extends_put_task c.in-PutTask.row old new) c.push_put-in-PutTask.ensures

pub returns-in-PutRun : goal.returns-in-PutRun
returns-in-PutRun c =
    let old = c.args.edits.now.items in
    let new = c.push_put-in-PutRun.new.edits.items in
    on_ok c.push_put-in-PutRun.result c.args.change.now (changes.PutRun c.in-PutRun.row) old new c.in-PutRun.is
    (extends_put_run c.in-PutRun.row old new) c.push_put-in-PutRun.ensures

pub returns-in-DropRun : goal.returns-in-DropRun
returns-in-DropRun c =
    let old = c.args.edits.now.items in
    let new = c.push_number_drop-in-DropRun.new.edits.items in
    on_ok c.push_number_drop-in-DropRun.result c.args.change.now (changes.DropRun c.in-DropRun.number) old new c.in-DropRun.is
    (extends_drop_run c.in-DropRun.number old new c.push_number_drop-in-DropRun.ensures.known) c.push_number_drop-in-DropRun.ensures.dropped

pub returns-in-PutPrep : goal.returns-in-PutPrep
returns-in-PutPrep c =
    let old = c.args.edits.now.items in
    let new = c.push_put-in-PutPrep.new.edits.items in
    on_ok c.push_put-in-PutPrep.result c.args.change.now (changes.PutPrep c.in-PutPrep.row) old new c.in-PutPrep.is
    (extends_put_prep c.in-PutPrep.row old new) c.push_put-in-PutPrep.ensures

pub returns-in-PutSample : goal.returns-in-PutSample
returns-in-PutSample c =
    let old = c.args.edits.now.items in
    let new = c.push_put-in-PutSample.new.edits.items in
    on_ok c.push_put-in-PutSample.result c.args.change.now (changes.PutSample c.in-PutSample.row) old new c.in-PutSample.is
    (extends_put_sample c.in-PutSample.row old new) c.push_put-in-PutSample.ensures

pub returns-in-PutScale : goal.returns-in-PutScale
returns-in-PutScale c =
    let old = c.args.edits.now.items in
    let new = c.push_put-in-PutScale.new.edits.items in
    on_ok c.push_put-in-PutScale.result c.args.change.now (changes.PutScale c.in-PutScale.row) old new c.in-PutScale.is
    (extends_put_scale c.in-PutScale.row old new) c.push_put-in-PutScale.ensures

pub returns-in-DropScale : goal.returns-in-DropScale
returns-in-DropScale c =
    let old = c.args.edits.now.items in
    let new = c.push_id_drop-in-DropScale.new.edits.items in
    on_ok c.push_id_drop-in-DropScale.result c.args.change.now (changes.DropScale c.in-DropScale.id) old new c.in-DropScale.is
    (extends_drop_scale c.in-DropScale.id old new) c.push_id_drop-in-DropScale.ensures
