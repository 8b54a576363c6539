use Rattle.std.proofs.Common.{◌≡◌, ◌<◌, true, ltb, is_some, is_none, rules, position}
use Rattle.inner.specs.Whole.{nobody, client_of}
use Rattle.book.specs.Requests.{lock_total}
use Rattle.book.proofs.ReadLaws.{sound_of, room_left, room_past}
use Rattle.book.proofs.keeping.Book.has_room.Goals as goal

pub returns : goal.returns
returns c =
    let n = c.args.self.now.inner in
    let there : c.args.client.0 < 16 → is_some (position is_none (client_of n c.args.client.0).slots) ≡ ltb (lock_total n c.args.client.0) 32 = room_left n (sound_of c.args.self.now) c.args.client.0 in
    let past : nobody ≡ client_of n c.args.client.0 → ltb (lock_total n c.args.client.0) 32 ≡ true = room_past n (sound_of c.args.self.now) c.args.client.0 in
    search rules
