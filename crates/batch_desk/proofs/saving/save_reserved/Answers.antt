use Rattle.batch_desk.proofs.Saved.{saves_sound, reserved_sound}
use Rattle.batch_desk.proofs.saving.save_reserved.Goals as goal

pub save-requires : goal.save-requires
save-requires g c =
    let m = c.args.machine.now in
    saves_sound (g.K.Keeper.told c.args.keeper.now) c.reserved.result.now m.seats m.state c.requires.told
    (reserved_sound m.reserved c.reserved.result.now m.seats m.state c.requires.reserved c.reserved.ensures.changes c.reserved.ensures.sound)
