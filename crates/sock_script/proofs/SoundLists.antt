-- Each list that a script runs through is sound.
use Rattle.flat_list.specs.Sound.{IsSound}
use Rattle.flat_list.proofs.Soundness.{starts, stays}
use Rattle.sock_script.specs.Words.{lines_of}
use Rattle.sock_script.specs.Output.{ListsSound, TextsSound}
use Rattle.sock_script.proofs.ListsBetween.{each_list}
use Rattle.sock_script.proofs.Reprinted.{read_as}
use Rattle.sock_script.proofs.Small.{small_script}

-- the empty list is sound, and each command leaves a sound list
pub lists_sound : ListsSound
lists_sound script small = each_list IsSound (λ flat n command number room sound. stays flat n command room sound) script small (starts script.header)

-- and so of a text's script, which is small
pub texts_sound : TextsSound
texts_sound mode text script short is =
    let r = read_as mode (lines_of text) script is in
    lists_sound script (small_script mode text r.0 script short r.1 r.2)
