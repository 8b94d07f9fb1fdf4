use Rattle.mutations.proofs.Wholes.{put_whole}
use Rattle.mutations.proofs.touched.put_in_place.Goals as goal

pub returns-clause-done : goal.returns-clause-done
returns-clause-done c whole is =
    put_whole c.args.names.now c.args.part whole c.args.fields.now c.make_room.new.fields c.put_back.new.fields is c.in_ok-make_room.ensures.beside c.put_back.ensures.here c.put_back.ensures.beside c.put_back.ensures.fields
