use Rattle.sock_script.proofs.SoundLists.{lists_sound, texts_sound}
use Rattle.sock_script.proofs.law.sound_lists.Goals as goal

pub returns : goal.returns
returns c = record { scripts = lists_sound; texts = texts_sound }
