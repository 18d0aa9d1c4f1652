use Rattle.std.proofs.Common.{◌≡◌, length, ◌∙◌}
use Rattle.console.proofs.Inputs.{read_whole}
use Rattle.console.proofs.input.read_file.Goals as goal

pub returns-clause-bytes : goal.returns-clause-bytes
returns-clause-bytes g c =
    let room : c.in_ok-file.file.len ≡ 32768 = c.in_ok-file.ensures.len in
    let full : length c.read_up_to.new.memory ≡ 32768 = c.read_up_to.auto.memory ∙ c.deref_mut.ensures.len ∙ room in
    read_whole _ c.read_up_to.new.memory _ _ c.in_ok-len.len _ 32768 c.in_ok-len.ensures.within full room c.truncate.ensures.items c.in_ok-len.ensures.bytes
