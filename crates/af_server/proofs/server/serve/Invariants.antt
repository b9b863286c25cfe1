use Rattle.af_server.specs.Listenings.{server_of}
use Rattle.af_server.specs.Servers.{name_of}
use Rattle.af_server.proofs.server.serve.Given as goal

-- the control of which the name speaks is the one that is made of the server's parts
abbrev pub ghosts-run : goal.ghosts-run
ghosts-run g a = record { name = name_of (server_of a.self.parts.board a.self.parts.plane a.self.scripted) }
