mod Treeing
