mod Records
mod SoFar
mod Texts
