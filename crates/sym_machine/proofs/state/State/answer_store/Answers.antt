-- A store sends its bytes, or the address of a place.
use Rattle.std.proofs.Common.{◌≡◌, ◌<◌, ◌^◌, Some, ap, sym, ◌∙◌, arith}
use Rattle.std.specs.Option.{option_map}
use Rattle.rv_decode.specs.Devices.{sent_bytes}
use Rattle.rv_decode.specs.State.{Store}
use Rattle.sym_machine.specs.declared.word.SymWord.{SymWord}
use Rattle.sym_machine.specs.Change.{stored_bytes}
use Rattle.sym_machine.specs.Devices.{byte_numbers, stored_code}
use Rattle.sym_machine.specs.Events.{Numeric, StoresCode}
use Rattle.sym_machine.specs.State.{reg_of}
use Rattle.sym_machine.proofs.DeviceLaws.{sends_numbers, sends_place, store_on, store_within}
use Rattle.sym_machine.proofs.state.State.answer_store.Goals as goal

pub returns-in-Some : goal.returns-in-Some
returns-in-Some c =
    let s = c.args.self.now.core in
    let op = c.args.op in
    let a = c.args.a in
    let w : SymWord = reg_of s c.args.source in
    let word : c.bytes.result ≡ w = c.bytes.ensures ∙ c.register.ensures in
    let below : a < 2 ^ 32 = omega arith in
    let sent = ap (λ (v : SymWord). byte_numbers (stored_bytes op v)) (sym word) ∙ c.in-Some.ensures in
    let n = c.in-Some.word in
    let on = store_on c.args.self.now.map s c.pass.new.self.core op w c.args.next a (Numeric (Store a (sent_bytes op n))) (sends_numbers op w a n sent) c.pass.ensures in
    (store_within op a below c.requires.aligned, on)

pub returns : goal.returns
returns c =
    let s = c.args.self.now.core in
    let op = c.args.op in
    let a = c.args.a in
    let w : SymWord = reg_of s c.args.source in
    let word : c.bytes.result ≡ w = c.bytes.ensures ∙ c.register.ensures in
    let none = ap (λ (v : SymWord). byte_numbers (stored_bytes op v)) (sym word) ∙ c.in_default.ensures in
    let place : stored_code op w ≡ Some c.in_ok-place.place = ap (stored_code op) (sym c.register.ensures) ∙ c.in_ok-place.ensures in
    store_on c.args.self.now.map s c.pass-2.new.self.core op w c.args.next a (StoresCode a c.in_ok-place.place)
    (sends_place op w a none ∙ ap (option_map (StoresCode a)) place) c.pass-2.ensures
