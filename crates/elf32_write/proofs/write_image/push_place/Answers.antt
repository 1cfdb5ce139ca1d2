use Rattle.std.proofs.Common.{ap, ◌∙◌}
use Rattle.zc_base.specs.Fields.{with_half, with_word}
use Rattle.elf32_write.specs.Image.{place_bytes}
use Rattle.elf32_write.proofs.Appends.{filled_appended}
use Rattle.elf32_write.proofs.write_image.push_place.Goals as goal

pub returns : goal.returns
unfolding with_half with_word
returns c =
    let place = c.args.place in
    let object = c.put_u16.ensures in
    let section = c.put_u16-2.ensures ∙ ap (λ l. with_half l 2 place.section) object in
    let offset = c.put_u32.ensures ∙ ap (λ l. with_word l 4 place.offset) section in
    let address = c.put_u32-2.ensures ∙ ap (λ l. with_word l 8 c.args.address) offset in
    filled_appended c.extend_from_slice.result c.args.out.now.items c.put_u32-2.new.bytes (place_bytes (place, c.args.address)) _ address c.extend_from_slice.ensures.items
